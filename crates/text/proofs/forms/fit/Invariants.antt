-- The words of the form that are left, on what is left of the line with the values so far, give what all of them do.
use Rattle.std.proofs.Common.{◌+◌, ◌≤◌, ◌≡◌, length, drop}
use Rattle.text.specs.Lists.{names_of}
use Rattle.text.specs.Forms.{fit_from}
use Rattle.text.specs.FormsLaws.{words_left}
use Rattle.text.proofs.forms.fit.Given as goal

abbrev pub invariant-loop-asked : goal.invariant-loop-asked
invariant-loop-asked l = record {
  from_in_line : l.from ≤ length l.line;
  places : l.place + goal.iterator-loop-asked.remaining l.asked-iterator
      ≤ goal.iterator-loop-asked.remaining l.initial.asked-iterator;
  gives : fit_from l.names l.count l.most (words_left l.asked-iterator) (drop l.from l.line) l.place l.values
      ≡ fit_from l.names l.count l.most (names_of 32 l.form) l.line 0 l.initial.values;
}
