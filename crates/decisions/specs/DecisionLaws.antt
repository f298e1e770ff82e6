-- Laws for going by a key or a mode that may be none.
use Rattle.std.specs.Prelude.{◌≡◌, Option, Some, None}
use Rattle.dispatch_keys.specs.declared.DispatchKey.{DispatchKey}
use Rattle.arbitration.specs.declared.DispatchMode.{DispatchMode}
use Rattle.decisions.specs.Switch.{on_ready, on_key}
use Rattle.decisions.specs.OwnDeadline.{on_key_mode}

module _ {A : Type 0} {y : A} (a : A) where
  pub no_ready : {x : Option DispatchKey} (f : DispatchKey → A) → x ≡ None → y ≡ a → y ≡ on_ready x a f
  unfolding on_ready
  no_ready f e h = rw e h

  pub some_ready : {x : Option DispatchKey} {k : DispatchKey} (f : DispatchKey → A) → x ≡ Some k → y ≡ f k
      → y ≡ on_ready x a f
  unfolding on_ready
  some_ready f e h = rw e h

  pub no_key : {x : Option (DispatchKey × DispatchMode)} (f : DispatchKey → DispatchMode → A) → x ≡ None → y ≡ a
      → y ≡ on_key x a f
  unfolding on_key
  no_key f e h = rw e h

  pub some_key : {x : Option (DispatchKey × DispatchMode)} {k : DispatchKey} {m : DispatchMode} (f : DispatchKey
      → DispatchMode → A)
      → x ≡ Some (k, m) → y ≡ f k m → y ≡ on_key x a f
  unfolding on_key
  some_key f e h = rw e h

  pub no_mode : {x : Option DispatchMode} (f : DispatchMode → A) → x ≡ None → y ≡ a → y ≡ on_key_mode x a f
  unfolding on_key_mode
  no_mode f e h = rw e h

  pub some_mode : {x : Option DispatchMode} {m : DispatchMode} (f : DispatchMode → A) → x ≡ Some m → y ≡ f m
      → y ≡ on_key_mode x a f
  unfolding on_key_mode
  some_mode f e h = rw e h

pub ruleset keys = (no_ready, some_ready, no_key, some_key, no_mode, some_mode)
