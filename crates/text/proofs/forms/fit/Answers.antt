-- The words of the form that are left, on what is left of the line with the values so far, give what all of them do.
-- That is handed over, not looked for, so that the search for a wrong answer comes to its end.
use Rattle.std.proofs.Common.{rules, tests, ◌∙◌, ap, drop, cond, []}
use Rattle.std.specs.Slice.Iter as slice
use Rattle.text.specs.Lists.{names_of}
use Rattle.text.specs.FormsLaws.{word_next, fits_taken, fits_rest, fits_over, fits_all, left_over}
use Rattle.text.proofs.forms.fit.Goals as goal
use Rattle.text.proofs.forms.fit.Goals.{in-Some-step, in-None-step}

pub returns-in-Err : goal.returns-in-Err
returns-in-Err c =
    fits_over _ _ _ _ _ _ _ c.loop-asked.invariant.gives
    (word_next _ c.loop-asked.asked-iterator c.next.new.self c.in-Some.asked c.in-Some.ensures.steps
    (λ x b q k. search (rules, tests)))
    c.next_word-word.ensures.line_value c.step_by.ensures c.in-Err.is (search left_over)

pub loop-asked-preserved : goal.loop-asked-preserved
loop-asked-preserved c =
    elim c.match-step.branch [
      | in-Some-step w ↦ record {
        from_in_line = search rules;
        places = search rules;
        gives =
            fits_taken _ _ _ _ _ _ _ c.loop-asked.invariant.gives
            (word_next _ c.loop-asked.asked-iterator c.next.new.self c.in-Some.asked c.in-Some.ensures.steps
            (λ x b q k. search (rules, tests)))
            c.next_word-word.ensures.line_value c.step_by.ensures c.in-Ok.is w.in-Some-step.is
            (ap (λ i. drop i c.args.line.now) w.from-is ∙ c.next_word-word.ensures.line_value_2)
            (w.values-is ∙ w.store.ensures);
      }
      | in-None-step w ↦ record {
        from_in_line = search rules;
        places = search rules;
        gives =
            fits_rest _ _ _ _ _ _ _ c.loop-asked.invariant.gives
            (word_next _ c.loop-asked.asked-iterator c.next.new.self c.in-Some.asked c.in-Some.ensures.steps
            (λ x b q k. search (rules, tests)))
            c.next_word-word.ensures.line_value c.step_by.ensures c.in-Ok.is w.in-None-step.is
            (ap (λ i. drop i c.args.line.now) w.from-is) (w.values-is ∙ w.store-in-None-step.ensures);
      }
    ]

pub returns : goal.returns
returns c =
    fits_all _ _ _ _ _ _ _ c.loop-asked.invariant.gives
    (ap (λ b. cond b [] (names_of 32 (slice.split_rest c.loop-asked.asked-iterator))) c.in-None.ensures.steps.0)
    c.after_last.ensures (search left_over)
