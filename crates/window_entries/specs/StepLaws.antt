-- Laws of a window's refresh and charge by its words, and of what the two calls leave.
use Rattle.std.specs.Prelude.{ℕ, ◌-◌, ◌/◌, ◌<◌, ◌≤◌, ◌≡◌, Bool, not, List, eqb, Option, Some}
use Rattle.std.proofs.Math.Path.{refl}
use Rattle.std.proofs.Common.{sym, ap, ◌∙◌}
use Rattle.std.proofs.Math.Bool.{true, false}
use borrow.Author.Tests.{lt-ltb, le-ltb, eq-eqb, ne_eqb, not-true, not-false}
use Rattle.refusal.specs.Cases.{choose, given, if_less, if_equal}
use Rattle.time.specs.Time.{rises, charge_of}
use Rattle.policy.specs.declared.SchedulingRole.TheVariants as role
use Rattle.policy.specs.PolicyCases.{on_role}
use Rattle.policy_words.specs.PolicyWords.{word, role_tag, epoch_from, role_from, parameters_of}
use Rattle.arbitration.specs.declared.CpuWindow.{CpuWindow}
use Rattle.arbitration.specs.declared.DispatchMode.{DispatchMode}
use Rattle.arbitration.specs.declared.DispatchMode.TheVariants as mode
use Rattle.window_config.specs.Config.{sound_config}
use Rattle.arbitration.specs.Window.{refreshed, charged, on_mode, uses_allowance, is_priority, is_protected}
use Rattle.arbitration.specs.declared.Candidate.{Candidate}
use Rattle.arbitration.specs.declared.Demand.{Demand}
use Rattle.window_config.specs.declared.ArbitrationConfig.{ArbitrationConfig}
use Rattle.arbitration.specs.ArbitrationLaws.{refreshed_config}
use Rattle.arbitration.specs.Key.{key_of}
use Rattle.arbitration.specs.Calls.{judged, refresh_call, account_call, key_call}
use Rattle.window_words.specs.WindowWords.{window_period, window_allowance, window_floor}
use Rattle.window_words.specs.WindowWords.{epoch_tag, epoch_word, allowance_left, floor_left}
use Rattle.window_words.specs.WindowWords.{mode_from, config_of, window_of, progressed, candidate_of, demand_of}
use Rattle.window_entries.specs.Entries.{left, left_of}
use Rattle.dispatch_keys.specs.declared.DispatchKey.{DispatchKey}

-- A window's words refreshed: within its epoch, or into a later one.
module _ (w : List ℕ) (now : ℕ) {n : ℕ} {later : Bool} where
  pub words_within : n ≡ now / word w window_period
      → later ≡ rises (epoch_from (word w epoch_tag) (word w epoch_word)) n
      → not later ≡ true → window_of w ≡ refreshed (window_of w) now
  unfolding choose refreshed given window_of config_of
  words_within d r t =
      let same : rises (epoch_from (word w epoch_tag) (word w epoch_word)) (now / word w window_period)
      ≡ false = rw (sym d) (sym r ∙ not-true later t) in
      rw same refl

  pub words_later : {v : CpuWindow} → n ≡ now / word w window_period
      → later ≡ rises (epoch_from (word w epoch_tag) (word w epoch_word)) n → not later ≡ false
      → v ≡ progressed (window_of w) (Some n) (word w window_allowance) (word w window_floor)
      → v ≡ refreshed (window_of w) now
  unfolding choose refreshed given window_of config_of
  words_later d r t k =
      let new : rises (epoch_from (word w epoch_tag) (word w epoch_word)) (now / word w window_period)
      ≡ true = rw (sym d) (sym r ∙ not-false later t) in
      rw (new, k, d) refl

-- Which intervals the allowance carries, by tags.
any_mode : (m : DispatchMode) → true ≡ on_mode m true true true true true
unfolding on_mode
any_mode mode.StrictFifo = refl
any_mode mode.Priority = refl
any_mode mode.Protected = refl
any_mode mode.Ordinary = refl
any_mode mode.Borrow = refl

other_mode : (a b c : Bool) → false
    ≡ on_mode (choose a mode.StrictFifo (choose b mode.Protected (choose c mode.Ordinary mode.Borrow))) false true false
    false false
unfolding on_mode choose
other_mode true b c = refl
other_mode false true c = refl
other_mode false false true = refl
other_mode false false false = refl

other_role : (a : Bool) → is_priority (choose a role.Ordinary role.Protected) ≡ false
unfolding is_priority on_role choose
other_role true = refl
other_role false = refl

module _ (tag r : ℕ) where
  pub by_mode : tag ≡ 1 → true ≡ uses_allowance (mode_from tag) (role_from r)
  unfolding uses_allowance on_mode mode_from if_equal choose
  by_mode h = rw h refl

  priority_role : r ≡ 1 → is_priority (role_from r) ≡ true
  unfolding is_priority on_role role_from if_equal choose
  priority_role h = rw h refl

  no_priority : (r ≡ 1 → ⊥) → is_priority (role_from r) ≡ false
  unfolding role_from if_equal
  no_priority h = rw (ne_eqb r 1 h) (other_role (eqb r 0))

  pub by_role : r ≡ 1 → true ≡ uses_allowance (mode_from tag) (role_from r)
  unfolding uses_allowance
  by_role h = rw (priority_role h) (any_mode (mode_from tag))

  pub by_neither : (tag ≡ 1 → ⊥) → (r ≡ 1 → ⊥) → false ≡ uses_allowance (mode_from tag) (role_from r)
  unfolding uses_allowance mode_from if_equal
  by_neither h k = rw (no_priority k, ne_eqb tag 1 h) (other_mode (eqb tag 0) (eqb tag 2) (eqb tag 3))

-- The floor carries protected threads alone.
module _ (r : ℕ) where
  pub ordinary_tag : r ≡ 0 → false ≡ is_protected (role_from r)
  unfolding is_protected on_role role_from if_equal choose
  ordinary_tag h = rw h refl

  pub priority_tag_lem : r ≡ 1 → false ≡ is_protected (role_from r)
  unfolding is_protected on_role role_from if_equal choose
  priority_tag_lem h = rw h refl

  pub protected_tag_lem : (r ≡ 0 → ⊥) → (r ≡ 1 → ⊥) → true ≡ is_protected (role_from r)
  unfolding is_protected on_role role_from if_equal choose
  protected_tag_lem h k = rw (ne_eqb r 0 h, ne_eqb r 1 k) refl

pub words_charged : (w fresh row : List ℕ) (start end tag : ℕ) {a b : Bool} {charge allowance floor p q : ℕ} {x :
    Option ℕ}
    {v : CpuWindow}
    → window_of fresh ≡ refreshed (window_of w) end
    → charge ≡ charge_of start end (word fresh window_period)
    → a ≡ uses_allowance (mode_from tag) (role_from (word row role_tag)) → allowance ≡ choose a charge 0
    → b ≡ is_protected (role_from (word row role_tag)) → floor ≡ choose b charge 0
    → x ≡ epoch_from (word fresh epoch_tag) (word fresh epoch_word) → p ≡ word fresh allowance_left - allowance
    → q ≡ word fresh floor_left - floor
    → v ≡ progressed (window_of fresh) x p q
    → v ≡ charged (window_of w) start end (parameters_of row) (mode_from tag)
unfolding charged parameters_of window_of config_of
words_charged w fresh row start end tag f e₀ e₁ e₂ e₃ e₄ e₅ e₆ e₇ k = rw (sym f, k, e₅, e₆, e₇, e₂, e₄, e₁, e₃, e₀) refl

-- What the calls leave: a refusal's number, or the window that they make.
module _ (w : List ℕ) (now : ℕ) {sound : Bool} where
  pub refresh_refused : sound ≡ sound_config (config_of w) → not sound ≡ true
      → left 5 tt (window_of w) ≡ left_of tt (refresh_call (window_of w) now)
  unfolding left_of refresh_call judged choose window_of
  refresh_refused h n = rw (sym h ∙ not-true sound n) refl

  pub refresh_done : {v : CpuWindow} → sound ≡ sound_config (config_of w) → not sound ≡ false
      → v ≡ refreshed (window_of w) now
      → left 0 tt v ≡ left_of tt (refresh_call (window_of w) now)
  unfolding left_of refresh_call judged choose given window_of
  refresh_done h n k = rw (sym h ∙ not-false sound n, k) refl

module _ (w row : List ℕ) (start end tag : ℕ) {sound : Bool} where
  pub account_refused : sound ≡ sound_config (config_of w) → not sound ≡ true
      → left 5 tt (window_of w) ≡ left_of tt (account_call (window_of w) start end (parameters_of row) (mode_from tag))
  unfolding left_of account_call judged choose window_of
  account_refused h n = rw (sym h ∙ not-true sound n) refl

  pub account_back : sound ≡ sound_config (config_of w) → not sound ≡ false → end < start
      → left 7 tt (window_of w) ≡ left_of tt (account_call (window_of w) start end (parameters_of row) (mode_from tag))
  unfolding left_of account_call judged choose if_less window_of
  account_back h n b = rw (sym h ∙ not-false sound n, lt-ltb end start b) refl

  pub account_done : {v : CpuWindow} → sound ≡ sound_config (config_of w) → not sound ≡ false → start ≤ end
      → v ≡ charged (window_of w) start end (parameters_of row) (mode_from tag)
      → left 0 tt v ≡ left_of tt (account_call (window_of w) start end (parameters_of row) (mode_from tag))
  unfolding left_of account_call judged choose if_less given window_of
  account_done h n b k = rw (sym h ∙ not-false sound n, le-ltb end start b, k) refl

-- A key: the window is stored as it is refreshed, and the key is made of that.
refreshed_whole : (w : CpuWindow) (now : ℕ)
    → progressed w (refreshed w now).epoch (refreshed w now).priority_remaining_ns
    (refreshed w now).protected_remaining_ns
    ≡ refreshed w now
refreshed_whole w now =
    ap
    (λ (x : ArbitrationConfig). record {
      config = x;
      epoch = (refreshed w now).epoch;
      priority_remaining_ns = (refreshed w now).priority_remaining_ns;
      protected_remaining_ns = (refreshed w now).protected_remaining_ns;
    })
    (sym (refreshed_config w now))

module _ (before : Option (DispatchKey × DispatchMode)) (w : CpuWindow) (now : ℕ) (c : Candidate) (d : Demand) where
  no_key_made : sound_config w.config ≡ false → left 5 before w ≡ left_of before (key_call w now c d)
  unfolding left_of key_call judged choose
  no_key_made h = rw h

  key_made : {k : Option (DispatchKey × DispatchMode)} {u : CpuWindow} → sound_config w.config ≡ true
      → k ≡ key_of (refreshed w now) now c d
      → u ≡ refreshed w now → left 0 k u ≡ left_of before (key_call w now c d)
  unfolding left_of key_call judged choose given
  key_made h e f = rw (h, e, f)

config_word : (w : List ℕ) → (window_of w).config ≡ config_of w
unfolding window_of
config_word w = refl

module _ (before : Option (DispatchKey × DispatchMode)) (w row flags : List ℕ) (now : ℕ) {sound : Bool} where
  pub key_refused : sound ≡ sound_config (config_of w) → not sound ≡ true
      → left 5 before (window_of w) ≡ left_of before (key_call (window_of w) now (candidate_of row) (demand_of flags))
  key_refused h n =
      no_key_made before (window_of w) now (candidate_of row) (demand_of flags)
      (ap sound_config (config_word w) ∙ sym h ∙ not-true sound n)

  -- What the goal does not show becomes known premise by premise, so that a search by this law alone comes to its end.
  pub key_done : {b fresh u : CpuWindow} {c : Candidate} {d : Demand} {k x : Option (DispatchKey × DispatchMode)}
      → x ≡ k
      → k ≡ key_of fresh now c d
      → c ≡ candidate_of row
      → d ≡ demand_of flags
      → fresh ≡ refreshed b now
      → b ≡ window_of w
      → u ≡ progressed (window_of w) fresh.epoch fresh.priority_remaining_ns fresh.protected_remaining_ns
      → sound ≡ sound_config (config_of w)
      → not sound ≡ false
      → left 0 x u ≡ left_of before (key_call (window_of w) now (candidate_of row) (demand_of flags))
  key_done {b} {fresh} {u} {c} {d} {k} {x} m l i j f e g h n =
      key_made before (window_of w) now (candidate_of row) (demand_of flags)
      (ap sound_config (config_word w) ∙ sym h ∙ not-false sound n)
      (m ∙ l ∙ ap (λ v. key_of v now c d) is_fresh ∙ ap (λ v. key_of (refreshed (window_of w) now) now v d) i
      ∙ ap (key_of (refreshed (window_of w) now) now (candidate_of row)) j)
      (g
      ∙ ap
      (λ v. progressed (window_of w) v.epoch v.priority_remaining_ns v.protected_remaining_ns)
      is_fresh
      ∙ refreshed_whole (window_of w) now)
    where
      is_fresh : fresh ≡ refreshed (window_of w) now
      is_fresh = f ∙ ap (λ v. refreshed v now) e

pub ruleset steps = (
  words_within,
  words_later,
  by_mode,
  by_role,
  by_neither,
  ordinary_tag,
  priority_tag_lem,
  protected_tag_lem,
  words_charged,
  refresh_refused,
  refresh_done,
  account_refused,
  account_back,
  account_done,
)
