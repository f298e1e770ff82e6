-- What is asked, in the definition's order.
use Rattle.refusal.specs.Cases.{cases}
use Rattle.images.specs.Images.{load_window}
use Rattle.images.specs.ImagesLaws.{acceptings}
use borrow.Author.Rules.{rules}
use Rattle.images.proofs.image_load_window.Statement.{statement}
use Rattle.images.proofs.image_load_window.Tie as tie

pub image_load_window_spec : {M : Type 1} → statement M
unfolding load_window
image_load_window_spec =
    tie.close
    (tie.spec
    (λ c κs. search rules)
    (λ c. search (acceptings, cases, rules) depth 12)
    (λ c κs. search rules)
    (λ c κs. search rules)
    (λ c κs. search rules)
    (λ c. search (acceptings, cases, rules) depth 12)
    (λ c. search (acceptings, cases, rules) depth 12))
