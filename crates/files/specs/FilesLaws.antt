-- The laws by which names and lines meet their promises.
use Rattle.std.specs.Prelude.{◌≡◌, ℕ, List, true, false, None, Some, IsUtf8}
use Rattle.std.specs.Str.{is_utf8}
use Rattle.std.proofs.Common.{refl}
use Rattle.std.proofs.lemmas.Str.{IsUtf8-from_is_utf8, is_utf8-from_IsUtf8}
use Rattle.refusal.specs.Cases.{choose}
use Rattle.files.specs.Files.{text_of}

pub a_text : (name : List ℕ) → IsUtf8 name → Some name ≡ text_of name
unfolding text_of choose
a_text name u = rw (is_utf8-from_IsUtf8 name u) refl

pub no_text : (name : List ℕ) → ¬ (IsUtf8 name) → None ≡ text_of name
unfolding text_of choose
no_text name n =
    elim (is_utf8 name) as (λ b. is_utf8 name ≡ b → None ≡ choose b (Some name) None)
    [ true ↦ λ e. absurd (n (IsUtf8-from_is_utf8 name e)) | false ↦ λ e. refl ] refl
