-- What load and store take is exactly the encodings: words pass the test just where they are the encoding of what they
-- stand for, and every record, window and queue whose numbers fit their types has an encoding, which stands for it.
use Rattle.std.specs.Prelude.{ℕ, suc, ◌<◌, ◌≡◌, true, List, [], ◌∷◌, map, ltb, length}
use Rattle.std.proofs.Common.{arith, ◌∙◌, ltb-true, lt-ltb}
use Rattle.std.proofs.Math.Path.{refl}
use Rattle.refusal.specs.Cases.{choose, if_equal}
use Rattle.thread.specs.declared.ThreadRecord.{ThreadRecord}
use Rattle.arbitration.specs.declared.CpuWindow.{CpuWindow}
use Rattle.codec.specs.Codec.{word, row_words, decoded, parameters_of, runtime_of, links_of, queue_links_of}
use Rattle.rows.specs.Table.{table}
use Rattle.window_words.specs.WindowWords.{window_word_count, window_of, config_of, order_of}
use Rattle.images.specs.Encoded.{laid, encoded, encoded_window}
use Rattle.images.specs.Encodes.{zeros, option_encodes, policy_encodes, budget_encodes, runtime_encodes}
use Rattle.images.specs.Encodes.{membership_encodes, parameters_encode, links_encode, queue_links_encode}
use Rattle.images.specs.Encodes.{record_encodes, window_encodes, all_from, record_at, table_encodes}
use Rattle.images.specs.Fits.{All, RecordFits, WindowFits}
use Rattle.images.specs.PartLaws.{zeros_first, zeros_second, byte_exact, half_exact}
use Rattle.images.specs.PartLaws.{laid_all, policy_exact, role_exact, backend_exact, budget_exact, runtime_exact}
use Rattle.images.specs.PartLaws.{link_exact, epoch_exact, membership_exact, flag_exact, parts, wholes}
use Rattle.images.specs.PartLaws.{link_passes, epoch_passes, policy_passes, role_passes, backend_passes}
use Rattle.images.specs.PartLaws.{flag_passes, budget_passes, runtime_passes, membership_passes}
use Rattle.images.specs.PartLaws.{link_stands, epoch_stands, policy_stands, role_stands, backend_stands}
use Rattle.images.specs.PartLaws.{flag_stands, budget_stands, runtime_stands, membership_stands}
use Rattle.images.specs.PartLaws.{policy_fits, membership_fits, both_first, both_second, both_hold}

-- What the test of a row says of its words.
record ParametersPass (w : List ℕ) : Type 0 where
  policy_test : policy_encodes (word w 0) (word w 1) ≡ true
  band_below : word w 2 < 256
  role_below : word w 3 < 3
  weight_below : word w 4 < 65536
  backend_below : word w 6 < 2
  budget_test : budget_encodes (word w 7) (word w 8) (word w 9) (word w 10) ≡ true

parameters_pass : (w : List ℕ) → parameters_encode w ≡ true → ParametersPass w
unfolding parameters_encode
parameters_pass w h =
    record {
      policy_test = search parts depth 8;
      band_below = search parts depth 8;
      role_below = search parts depth 8;
      weight_below = search parts depth 8;
      backend_below = search parts depth 8;
      budget_test = search parts depth 8;
    }

record RecordPasses (w : List ℕ) : Type 0 where
  parameters : ParametersPass w
  runtime_test : runtime_encodes (word w 11) (word w 12) (word w 13) (word w 14) (word w 15) ≡ true
  left_test : option_encodes (word w 17) (word w 18) ≡ true
  right_test : option_encodes (word w 19) (word w 20) ≡ true
  height_below : word w 21 < 256
  previous_test : option_encodes (word w 22) (word w 23) ≡ true
  next_test : option_encodes (word w 24) (word w 25) ≡ true
  membership_test : membership_encodes (word w 26) (word w 27) (word w 28) ≡ true
  cpu_below : word w 29 < 256
  spare_test : zeros (word w 30) (word w 31) 0 ≡ true

record_passes : (w : List ℕ) → record_encodes w ≡ true → RecordPasses w
unfolding record_encodes links_encode queue_links_encode
record_passes w h =
    let first : parameters_encode w ≡ true = search parts in
    let links : links_encode w ≡ true = search parts depth 8 in
    let queue_links_lem : queue_links_encode w ≡ true = search parts depth 8 in
    let height : ltb (word w 21) 256 ≡ true = search parts depth 8 in
    record {
      parameters = parameters_pass w first;
      runtime_test = search parts depth 8;
      left_test = search parts depth 8;
      right_test = search parts depth 8;
      height_below = ltb-true (word w 21) 256 height;
      previous_test = search parts depth 8;
      next_test = search parts depth 8;
      membership_test = search parts depth 8;
      cpu_below = search parts depth 8;
      spare_test = search parts depth 8;
    }

-- A row that passes is the encoding of its record.
record_again : (w : List ℕ) → RecordPasses w → encoded (decoded w) ≡ laid row_words w []
unfolding encoded decoded parameters_of runtime_of links_of queue_links_of
record_again w p =
    let q : ParametersPass w = p.parameters in
    let first : word w 30 ≡ 0 = zeros_first (word w 30) (word w 31) 0 p.spare_test in
    let second : word w 31 ≡ 0 = zeros_second (word w 30) (word w 31) 0 p.spare_test in
    rw (
      policy_exact (word w 0) (word w 1) q.policy_test,
      byte_exact (word w 2) q.band_below,
      role_exact (word w 3) q.role_below,
      half_exact (word w 4) q.weight_below,
      backend_exact (word w 6) q.backend_below,
      budget_exact (word w 7) (word w 8) (word w 9) (word w 10) q.budget_test,
      runtime_exact (word w 11) (word w 12) (word w 13) (word w 14) (word w 15) p.runtime_test,
      link_exact (word w 17) (word w 18) p.left_test,
      link_exact (word w 19) (word w 20) p.right_test,
      byte_exact (word w 21) p.height_below,
      link_exact (word w 22) (word w 23) p.previous_test,
      link_exact (word w 24) (word w 25) p.next_test,
      membership_exact (word w 26) (word w 27) (word w 28) p.membership_test,
      byte_exact (word w 29) p.cpu_below,
      first,
      second,
    )

pub record_exact : (w : List ℕ) → length w ≡ row_words → record_encodes w ≡ true → encoded (decoded w) ≡ w
record_exact w size h = record_again w (record_passes w h) ∙ laid_all row_words w size

-- It has an encoding, which passes the test and stands for it.
module _ (r : ThreadRecord) (f : RecordFits r) where
  parameters_test : parameters_encode (encoded r) ≡ true
  unfolding encoded parameters_encode
  parameters_test =
      search (
        f.policy_fits,
        f.band_fits,
        f.weight_fits,
        wholes,
        policy_passes,
        role_passes,
        backend_passes,
        budget_passes,
      ) depth 12

  links_test : links_encode (encoded r) ≡ true
  unfolding encoded links_encode
  links_test = search (lt-ltb r.ready_tree.height 256 f.height_fits, wholes, link_passes) depth 8

  queue_links_test : queue_links_encode (encoded r) ≡ true
  unfolding encoded queue_links_encode
  queue_links_test = search (f.membership_fits, wholes, link_passes, membership_passes) depth 8

  runtime_test : runtime_encodes (word (encoded r) 11) (word (encoded r) 12) (word (encoded r) 13) (word (encoded r) 14)
      (word (encoded r) 15) ≡ true
  unfolding encoded
  runtime_test = runtime_passes r.runtime

  cpu_test : word (encoded r) 29 < 256
  unfolding encoded
  cpu_test = f.cpu_fits

  spare_test : zeros (word (encoded r) 30) (word (encoded r) 31) 0 ≡ true
  unfolding encoded zeros if_equal choose
  spare_test = refl

  pub record_encodes_lem : record_encodes (encoded r) ≡ true
  unfolding record_encodes
  record_encodes_lem =
      search (parameters_test, links_test, queue_links_test, runtime_test, cpu_test, spare_test, wholes) depth 8

  pub record_stands : decoded (encoded r) ≡ r
  unfolding encoded decoded parameters_of runtime_of links_of queue_links_of
  record_stands =
      rw (
        policy_stands r.parameters.policy f.policy_fits,
        byte_exact r.parameters.band.0 f.band_fits,
        role_stands r.parameters.role,
        half_exact r.parameters.weight.0 f.weight_fits,
        backend_stands r.parameters.fair_backend,
        budget_stands r.parameters.budget,
        runtime_stands r.runtime,
        link_stands r.ready_tree.left,
        link_stands r.ready_tree.right,
        byte_exact r.ready_tree.height f.height_fits,
        link_stands r.queue_links.previous,
        link_stands r.queue_links.next,
        membership_stands r.queue_links.membership f.membership_fits,
        byte_exact r.cpu.0 f.cpu_fits,
      )

-- What any row stands for fits, so a row that is the encoding of its record passes.
pub decoded_fits : (w : List ℕ) → RecordFits (decoded w)
unfolding decoded parameters_of links_of queue_links_of
decoded_fits w =
    record {
      policy_fits = policy_fits (word w 0) (word w 1);
      band_fits = omega arith;
      weight_fits = omega arith;
      height_fits = omega arith;
      membership_fits = membership_fits (word w 26) (word w 27) (word w 28);
      cpu_fits = omega arith;
    }

pub record_only : (w : List ℕ) → encoded (decoded w) ≡ w → record_encodes w ≡ true
record_only w e = rw e at (record_encodes_lem (decoded w) (decoded_fits w))

-- The same of a window.
record WindowPasses (w : List ℕ) : Type 0 where
  priority_below : word w 3 < 256
  budget_below : word w 4 < 256
  fair_below : word w 5 < 256
  borrow_below : word w 6 < 256
  prefer_below : word w 7 < 2
  epoch_test : option_encodes (word w 8) (word w 9) ≡ true

window_passes : (w : List ℕ) → window_encodes w ≡ true → WindowPasses w
unfolding window_encodes
window_passes w h =
    record {
      priority_below = search parts depth 8;
      budget_below = search parts depth 8;
      fair_below = search parts depth 8;
      borrow_below = search parts depth 8;
      prefer_below = search parts depth 8;
      epoch_test = search parts depth 8;
    }

window_again : (w : List ℕ) → WindowPasses w → encoded_window (window_of w) ≡ laid window_word_count w []
unfolding encoded_window window_of config_of order_of
window_again w p =
    rw (
      byte_exact (word w 3) p.priority_below,
      byte_exact (word w 4) p.budget_below,
      byte_exact (word w 5) p.fair_below,
      byte_exact (word w 6) p.borrow_below,
      flag_exact (word w 7) p.prefer_below,
      epoch_exact (word w 8) (word w 9) p.epoch_test,
    )

pub window_exact : (w : List ℕ) → length w ≡ window_word_count → window_encodes w ≡ true
    → encoded_window (window_of w) ≡ w
window_exact w size h = window_again w (window_passes w h) ∙ laid_all window_word_count w size

module _ (w : CpuWindow) (f : WindowFits w) where
  pub window_encodes_lem : window_encodes (encoded_window w) ≡ true
  unfolding window_encodes encoded_window
  window_encodes_lem =
      search (f.priority_fits, f.budget_fits, f.fair_fits, f.borrow_fits, wholes, flag_passes, epoch_passes)
      depth 12

  pub window_stands : window_of (encoded_window w) ≡ w
  unfolding encoded_window window_of config_of order_of
  window_stands =
      rw (
        byte_exact w.config.order.priority_rank f.priority_fits,
        byte_exact w.config.order.budget_rank f.budget_fits,
        byte_exact w.config.order.fair_rank f.fair_fits,
        byte_exact w.config.order.borrow_rank f.borrow_fits,
        flag_stands w.config.prefer_fair,
        epoch_stands w.epoch,
      )

pub window_fits : (w : List ℕ) → WindowFits (window_of w)
unfolding window_of config_of order_of
window_fits w =
    record {
      priority_fits = omega arith;
      budget_fits = omega arith;
      fair_fits = omega arith;
      borrow_fits = omega arith;
    }

pub window_only : (w : List ℕ) → encoded_window (window_of w) ≡ w → window_encodes w ≡ true
window_only w e = rw e at (window_encodes_lem (window_of w) (window_fits w))

-- A table, row by row.
rows_exact : (k : ℕ) (rows : List (List ℕ)) → All (λ (r : List ℕ). length r ≡ row_words) rows
    → all_from record_at k rows ≡ true → map encoded (map decoded rows) ≡ rows
unfolding all_from
rows_exact k [] wide h = refl
rows_exact k (row ∷ rest) wide h =
    rw (
      record_exact row wide.0 (both_first (record_encodes row) (all_from record_at (suc k) rest) h),
      rows_exact (suc k) rest wide.1 (both_second (record_encodes row) (all_from record_at (suc k) rest) h),
    )

pub table_exact : (rows : List (List ℕ)) → All (λ (r : List ℕ). length r ≡ row_words) rows → table_encodes rows ≡ true
    → map encoded (table rows) ≡ rows
unfolding table_encodes table
table_exact rows wide h = rows_exact 0 rows wide h

rows_encode : (k : ℕ) (t : List ThreadRecord) → All RecordFits t → all_from record_at k (map encoded t) ≡ true
unfolding all_from
rows_encode k [] f = refl
rows_encode k (r ∷ rest) f =
    both_hold (record_encodes (encoded r)) (all_from record_at (suc k) (map encoded rest)) (record_encodes_lem r f.0)
    (rows_encode (suc k) rest f.1)

pub table_encodes_lem : (t : List ThreadRecord) → All RecordFits t → table_encodes (map encoded t) ≡ true
unfolding table_encodes
table_encodes_lem t f = rows_encode 0 t f

pub table_stands : (t : List ThreadRecord) → All RecordFits t → table (map encoded t) ≡ t
unfolding table
table_stands [] f = refl
table_stands (r ∷ rest) f = rw (record_stands r f.0, table_stands rest f.1)

table_fits : (rows : List (List ℕ)) → All RecordFits (map decoded rows)
table_fits [] = tt
table_fits (row ∷ rest) = (decoded_fits row, table_fits rest)

pub table_only : (rows : List (List ℕ)) → map encoded (table rows) ≡ rows → table_encodes rows ≡ true
unfolding table
table_only rows e = rw e at (table_encodes_lem (map decoded rows) (table_fits rows))
