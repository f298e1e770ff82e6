-- What is asked, in the definition's order.
use Rattle.refusal.specs.Cases.{cases}
use Rattle.images.specs.Images.{load_queue}
use Rattle.images.specs.ImagesLaws.{acceptings, queue_read}
use borrow.Author.Rules.{rules}
use Rattle.images.proofs.image_load_queue.Statement.{statement}
use Rattle.images.proofs.image_load_queue.Tie as tie

pub image_load_queue_spec : {M : Type 1} → statement M
unfolding load_queue
image_load_queue_spec =
    tie.close
    (tie.spec
    (λ c κs. search rules)
    (λ c. search (acceptings, cases, rules) depth 12)
    (λ c κs. search rules)
    (λ c κs. search rules)
    (λ c. search (acceptings, cases, rules) depth 12)
    (λ c κs. search rules)
    (λ c. search (acceptings, queue_read, rules) depth 12))
