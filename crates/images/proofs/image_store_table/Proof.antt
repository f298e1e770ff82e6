-- What is asked, in the definition's order.
use Rattle.refusal.specs.Cases.{cases}
use Rattle.images.specs.Images.{store_table}
use Rattle.images.specs.ImagesLaws.{acceptings}
use borrow.Author.Rules.{rules}
use Rattle.images.proofs.image_store_table.Statement.{statement}
use Rattle.images.proofs.image_store_table.Tie as tie

pub image_store_table_spec : {M : Type 1} → statement M
unfolding store_table
image_store_table_spec =
    tie.close
    (tie.spec
    (λ c κs. search rules)
    (λ c. search (acceptings, cases, rules) depth 12)
    (λ c. search rules)
    (λ c κs. search rules)
    (λ c. search (acceptings, cases, rules) depth 12)
    (λ c κs. search rules)
    (λ c κs. search rules)
    (λ c. search (acceptings, cases, rules) depth 12)
    (λ c κs. search rules)
    (λ c. search rules)
    (λ c. search (acceptings, cases, rules) depth 12))
