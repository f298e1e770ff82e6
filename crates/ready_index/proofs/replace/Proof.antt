-- One side takes the place as it is; of two sides the successor does.
use Rattle.ready_index.specs.CasesLaws.{answers}
use Rattle.ready_index.specs.Index.{replace}
use Rattle.rows.specs.Frame.{framing}
use borrow.Author.Rules.{rules}
use Rattle.ready_index.proofs.replace.Statement.{statement}
use Rattle.ready_index.proofs.replace.Tie as tie

pub replace_spec : {M : Type 1} → statement M
unfolding replace
replace_spec =
    tie.close
    (tie.spec
    (λ c. search rules)
    (λ c. search rules)
    (λ c. (search answers depth 8, (search, search framing depth 8)))
    (λ c. search rules)
    (λ c. search rules)
    (λ c. (search answers depth 8, (search, search framing depth 8)))
    (λ c κs. search rules)
    (λ c. search rules)
    (λ c. search rules)
    (λ c. (search answers depth 8, (search, search framing depth 8))))
