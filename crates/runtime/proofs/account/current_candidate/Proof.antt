-- The table's length, then the judgement.
use Rattle.runtime.specs.RuntimeLaws.{ways}
use Rattle.rows.specs.Unmoved.{unmoving}
use Rattle.rows.specs.Frame.{framing}
use borrow.Author.Rules.{rules}
use Rattle.runtime.proofs.account.current_candidate.Statement.{statement}
use Rattle.runtime.proofs.account.current_candidate.Tie as tie

pub current_candidate_spec : {M : Type 1} → statement M
current_candidate_spec =
    tie.close
    (tie.spec
    (λ c. (search ways depth 8, (search unmoving, (search unmoving, (search unmoving, search framing depth 8)))))
    (λ c κs. search rules)
    (λ c. search rules)
    (λ c. (search ways depth 8, (search unmoving, (search unmoving, (search unmoving, search framing depth 8))))))
