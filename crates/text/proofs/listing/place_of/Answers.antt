-- So many names stand in front of the word as the chain counts.
use Rattle.std.proofs.Common.{rules, tests, ◌∙◌, ap, sym, not, eqb, ℕ}
use Rattle.std.specs.Slice.Iter as slice
use Rattle.std.specs.List.{slice_split}
use Rattle.std.specs.Cmp.Lexicographic.{pointwise}
use Rattle.std.proofs.lemmas.Iterator.Consumers.{count_from_yields_List}
use Rattle.std.proofs.lemmas.Iterator.Search.{YieldsList-from_take_while}
use Rattle.std.proofs.lemmas.Iterator.Splits.{YieldsList-from_slice_split}
use Rattle.std.proofs.lemmas.List.Folds.{length-prefix_len}
use Rattle.text.specs.Lists.{place_in}
use Rattle.text.specs.ListsLaws.{names_are, place_is}
use Rattle.text.proofs.listing.place_of.Goals as goal

pub returns : goal.returns
returns c =
    let list = c.args.list.now in
    let word = c.args.word.now in
    count_from_yields_List c.take_while-others.result _ c.count.ensures.ran
    (YieldsList-from_take_while _ (λ name. not (pointwise eqb name word))
    (YieldsList-from_slice_split _ (λ (x : ℕ). eqb x c.args.between) list (cc) (cc)
    (ap slice.split_callee c.take_while-others.ensures.source ∙ c.split.ensures.closure)
    (λ x b q k. search (rules, tests)))
    c.take_while-others.ensures.closure c.take_while-others.ensures.done (λ x b q k. search (rules, tests)))
    ∙ length-prefix_len (λ name. not (pointwise eqb name word)) (slice_split (λ x. eqb x c.args.between) list)
    ∙ sym (place_is word (slice_split (λ x. eqb x c.args.between) list))
    ∙ ap (place_in word) (sym (names_are c.args.between list))
