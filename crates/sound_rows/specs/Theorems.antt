-- What calls leave of a row that encodes: it still does, and where its record is left every word is as it was. The
-- words that no call stores are as they were in every row.
use Rattle.std.specs.Prelude.{ℕ, suc, ◌+◌, ◌%◌, ◌<◌, ◌≡◌, refl, Bool, true, false, List, [], ◌∷◌, ltb, eqb, length}
use Rattle.std.specs.Prelude.{get_or}
use Rattle.std.proofs.Common.{sym, ◌∙◌, arith, eqb-true, ltb-true}
use Rattle.std.proofs.Math.Path.{ap}
use Rattle.std.proofs.Math.ListN.{get_or-map}
use Rattle.refusal.specs.Cases.{choose, if_less, if_equal}
use Rattle.thread.specs.declared.ThreadRecord.{ThreadRecord}
use Rattle.policy_words.specs.PolicyWords.{runtime_tag, runtime_first, runtime_second, runtime_third, runtime_fourth}
use Rattle.policy_words.specs.PolicyWords.{policy_tag, runtime_of}
use Rattle.policy_words.specs.Encodes.{both, zeros, option_encodes, runtime_encodes}
use Rattle.codec.specs.Codec.{word, row_words, cpu_word, decoded, links_of, queue_links_of, ready_turn_word, left_tag}
use Rattle.codec.specs.Codec.{left_word}
use Rattle.codec.specs.Codec.{right_tag, right_word, height_word, previous_tag, previous_word, next_tag, next_word}
use Rattle.codec.specs.Codec.{membership_tag, membership_first, membership_second}
use Rattle.codec.specs.Frame.{membership_encodes, words_from, beside_words, Part, kept, stored, RowFramed}
use Rattle.rows.specs.Table.{table, record_of}
use Rattle.rows.specs.Frame.{Framed}
use Rattle.images.specs.Encoded.{link_words, runtime_words, membership_words}
use Rattle.images.specs.Encodes.{links_encode, queue_links_encode, parameters_encode, record_encodes, all_from}
use Rattle.images.specs.Encodes.{record_at}
use Rattle.images.specs.Encodes.{table_encodes, first_spare, second_spare}
use Rattle.images.specs.PartLaws.{both_first, both_second, both_hold, byte_exact, link_exact, runtime_exact}
use Rattle.images.specs.PartLaws.{membership_exact}
use Rattle.sound_rows.specs.Encoding.{parts_encode}

-- The words of a row, one after the other.
abbrev pub all_words : List ℕ → List ℕ
all_words w = words_from w 0 row_words

-- In every row, whether it encodes or not: the words of the parameters, the processor's and the spare ones are as they
-- were.
pub parameters_kept : {w v : List ℕ} → RowFramed w v → words_from v policy_tag 11 ≡ words_from w policy_tag 11
parameters_kept f = ap (λ (l : List ℕ). words_from l 0 11) f.beside

pub processor_kept : {w v : List ℕ} → RowFramed w v → word v cpu_word ≡ word w cpu_word
processor_kept f = ap (λ (l : List ℕ). word l 11) f.beside

pub spare_kept : {w v : List ℕ} → RowFramed w v
    → (word v first_spare ≡ word w first_spare) × (word v second_spare ≡ word w second_spare)
spare_kept f = (ap (λ (l : List ℕ). word l 12) f.beside, ap (λ (l : List ℕ). word l 13) f.beside)

-- A row's test by its parts.
record EachEncodes (w : List ℕ) : Type 0 where
  runtime : runtime_encodes (word w runtime_tag) (word w runtime_first) (word w runtime_second) (word w runtime_third)
      (word w runtime_fourth) ≡ true
  left : option_encodes (word w left_tag) (word w left_word) ≡ true
  right : option_encodes (word w right_tag) (word w right_word) ≡ true
  height : ltb (word w height_word) 256 ≡ true
  previous : option_encodes (word w previous_tag) (word w previous_word) ≡ true
  next : option_encodes (word w next_tag) (word w next_word) ≡ true
  membership : membership_encodes (word w membership_tag) (word w membership_first) (word w membership_second) ≡ true

each_encodes : (w : List ℕ) → parts_encode w ≡ true → EachEncodes w
unfolding parts_encode links_encode queue_links_encode
each_encodes w e =
    let links = both_first _ _ (both_second _ _ e) in
    let queued = both_second _ _ (both_second _ _ e) in
    record {
      runtime = both_first _ _ e;
      left = both_first _ _ links;
      right = both_first _ _ (both_second _ _ links);
      height = both_second _ _ (both_second _ _ links);
      previous = both_first _ _ queued;
      next = both_first _ _ (both_second _ _ queued);
      membership = both_second _ _ (both_second _ _ queued);
    }

parts_encode_lem : (w : List ℕ) → EachEncodes w → parts_encode w ≡ true
unfolding parts_encode links_encode queue_links_encode
parts_encode_lem w e =
    both_hold _ _ e.runtime (both_hold _ _
    (both_hold _ _ e.left (both_hold _ _ e.right e.height))
    (both_hold _ _ e.previous (both_hold _ _ e.next e.membership)))

-- A runtime's test is that of its first four words and that of its last by the tag.
fourth_apart : (tag first second third fourth : ℕ)
    → runtime_encodes tag first second third fourth
    ≡ both (runtime_encodes tag first second third 0) (if_equal tag 2 true (eqb fourth 0))
unfolding runtime_encodes if_less if_equal choose
fourth_apart tag first second third fourth =
    go (eqb tag 1) (eqb tag 2) (ltb tag 4) (zeros first second third) (option_encodes first second) (eqb fourth 0) refl
    refl
  where
    go : (fair budget known none epoch last : Bool) → eqb tag 1 ≡ fair → eqb tag 2 ≡ budget
        → choose fair last (choose budget epoch (choose known (choose none last false) false))
        ≡ choose (choose fair true (choose budget epoch (choose known (choose none true false) false)))
        (choose budget true last) false
    go true true known none epoch last p q =
        absurd (let k : tag ≡ 1 = eqb-true tag 1 p in omega (arith, k, eqb-true tag 2 q))
    go true false known none epoch last p q = refl
    go false true known none true last p q = refl
    go false true known none false last p q = refl
    go false false true true epoch last p q = refl
    go false false true false epoch last p q = refl
    go false false false none epoch last p q = refl

pub part_encodes : {encodes : List ℕ → Bool} {was now : List ℕ} → encodes was ≡ true → Part encodes was now
    → encodes now ≡ true
part_encodes {encodes} e (kept p) = ap encodes p ∙ e
part_encodes e (stored q) = q

stay_encoded : (w v : List ℕ) → EachEncodes w → RowFramed w v → EachEncodes v
stay_encoded w v e f =
    let whole =
    sym (fourth_apart (word w runtime_tag) (word w runtime_first) (word w runtime_second) (word w runtime_third)
    (word w runtime_fourth)) ∙ e.runtime in
    record {
      runtime =
          fourth_apart (word v runtime_tag) (word v runtime_first) (word v runtime_second) (word v runtime_third)
          (word v runtime_fourth)
          ∙ both_hold _ _ (part_encodes (both_first _ _ whole) f.runtime)
          (part_encodes (both_second _ _ whole) f.burst);
      left = part_encodes e.left f.left;
      right = part_encodes e.right f.right;
      height = part_encodes e.height f.height;
      previous = part_encodes e.previous f.previous;
      next = part_encodes e.next f.next;
      membership = part_encodes e.membership f.membership;
    }

-- Whatever a call leaves of a row that encodes, encodes.
pub encoded_stays : (w v : List ℕ) → parts_encode w ≡ true → RowFramed w v → parts_encode v ≡ true
encoded_stays w v e f = parts_encode_lem v (stay_encoded w v (each_encodes w e) f)

-- A record's row has its test in those parts, and beside them in words that no call stores.
abbrev beside_encodes : List ℕ → Bool
beside_encodes w = if_less (word w cpu_word) 256 (zeros (word w first_spare) (word w second_spare) 0) false

record_parts : (w : List ℕ) → record_encodes w ≡ true → parts_encode w ≡ true
unfolding record_encodes parts_encode
record_parts w e =
    let behind = both_second _ _ e in
    both_hold _ _ (both_first _ _ behind) (both_hold _ _ (both_first _ _ (both_second _ _ behind))
    (both_first _ _ (both_second _ _ (both_second _ _ behind))))

-- Whatever a call leaves of a record's encoding is a record's encoding.
pub record_stays : (w v : List ℕ) → record_encodes w ≡ true → RowFramed w v → record_encodes v ≡ true
unfolding record_encodes parts_encode parameters_encode
record_stays w v e f =
    let parts = encoded_stays w v (record_parts w e) f in
    let same : beside_encodes v ≡ beside_encodes w = ap
    (λ (l : List ℕ). if_less (word l 11) 256 (zeros (word l 12) (word l 13) 0) false) f.beside in
    both_hold _ _ (ap parameters_encode f.beside ∙ both_first _ _ e)
    (both_hold _ _ (both_first _ _ parts) (both_hold _ _ (both_first _ _ (both_second _ _ parts))
    (both_hold _ _ (both_second _ _ (both_second _ _ parts))
    (same ∙ both_second _ _ (both_second _ _ (both_second _ _ (both_second _ _ e)))))))

-- A row's words from those of its parts.
abbrev joined : List ℕ → List ℕ → ℕ → List ℕ → List ℕ → ℕ → List ℕ → List ℕ → List ℕ → List ℕ
joined b r turn l m height p n q =
    word b 0 ∷ word b 1 ∷ word b 2 ∷ word b 3 ∷ word b 4 ∷ word b 5 ∷ word b 6 ∷ word b 7 ∷ word b 8 ∷ word b 9
    ∷ word b 10 ∷ word r 0 ∷ word r 1 ∷ word r 2 ∷ word r 3 ∷ word r 4 ∷ turn ∷ word l 0 ∷ word l 1 ∷ word m 0
    ∷ word m 1 ∷ height ∷ word p 0 ∷ word p 1 ∷ word n 0 ∷ word n 1 ∷ word q 0 ∷ word q 1 ∷ word q 2 ∷ word b 11
    ∷ word b 12 ∷ word b 13 ∷ []

joined_same : {b b' r r' l l' m m' p p' n n' q q' : List ℕ} {turn turn' height height' : ℕ} → b' ≡ b → r' ≡ r
    → turn' ≡ turn → l' ≡ l → m' ≡ m → height' ≡ height → p' ≡ p → n' ≡ n → q' ≡ q
    → joined b' r' turn' l' m' height' p' n' q' ≡ joined b r turn l m height p n q
joined_same e₁ e₂ e₃ e₄ e₅ e₆ e₇ e₈ e₉ = rw (e₁, e₂, e₃, e₄, e₅, e₆, e₇, e₈, e₉)

-- Two encodings of one value are the same words.
pub same_words : {A B : Type 0} (of : A → B) {x y : A} {a b : B} → of x ≡ a → of y ≡ b → y ≡ x → b ≡ a
same_words of p q e = sym q ∙ ap of e ∙ p

same_byte_lem : (n m : ℕ) → ltb n 256 ≡ true → ltb m 256 ≡ true → m % 256 ≡ n % 256 → m ≡ n
same_byte_lem n m p q e = sym (byte_exact m (ltb-true m 256 q)) ∙ e ∙ byte_exact n (ltb-true n 256 p)

module _ (w v : List ℕ) (a : EachEncodes w) (b : EachEncodes v) (d : decoded v ≡ decoded w) where
  same_runtime : words_from v runtime_tag 5 ≡ words_from w runtime_tag 5
  unfolding decoded runtime_of
  same_runtime =
      same_words runtime_words (runtime_exact _ _ _ _ _ a.runtime) (runtime_exact _ _ _ _ _ b.runtime)
      (ap (λ (r : ThreadRecord). r.runtime) d)

  same_turn : word v ready_turn_word ≡ word w ready_turn_word
  unfolding decoded
  same_turn = ap (λ (r : ThreadRecord). r.ready_turn) d

  same_left : words_from v left_tag 2 ≡ words_from w left_tag 2
  unfolding decoded links_of
  same_left =
      same_words link_words (link_exact _ _ a.left) (link_exact _ _ b.left)
      (ap (λ (r : ThreadRecord). r.ready_tree.left) d)

  same_right : words_from v right_tag 2 ≡ words_from w right_tag 2
  unfolding decoded links_of
  same_right =
      same_words link_words (link_exact _ _ a.right) (link_exact _ _ b.right)
      (ap (λ (r : ThreadRecord). r.ready_tree.right) d)

  same_height : word v height_word ≡ word w height_word
  unfolding decoded links_of
  same_height =
      same_byte_lem (word w height_word) (word v height_word) a.height b.height
      (ap (λ (r : ThreadRecord). r.ready_tree.height) d)

  same_previous : words_from v previous_tag 2 ≡ words_from w previous_tag 2
  unfolding decoded queue_links_of
  same_previous =
      same_words link_words (link_exact _ _ a.previous) (link_exact _ _ b.previous)
      (ap (λ (r : ThreadRecord). r.queue_links.previous) d)

  same_next : words_from v next_tag 2 ≡ words_from w next_tag 2
  unfolding decoded queue_links_of
  same_next =
      same_words link_words (link_exact _ _ a.next) (link_exact _ _ b.next)
      (ap (λ (r : ThreadRecord). r.queue_links.next) d)

  same_membership_lem : words_from v membership_tag 3 ≡ words_from w membership_tag 3
  unfolding decoded queue_links_of
  same_membership_lem =
      same_words membership_words (membership_exact _ _ _ a.membership) (membership_exact _ _ _ b.membership)
      (ap (λ (r : ThreadRecord). r.queue_links.membership) d)

  -- Two rows that encode and stand for one record differ at most in the words that no call stores.
  same_row : beside_words v ≡ beside_words w → all_words v ≡ all_words w
  same_row e =
      joined_same e same_runtime same_turn same_left same_right same_height same_previous same_next same_membership_lem

-- A row that encodes and whose record a call leaves is as it was, word for word.
pub encoded_same : (w v : List ℕ) → parts_encode w ≡ true → RowFramed w v → decoded v ≡ decoded w
    → all_words v ≡ all_words w
encoded_same w v e f d =
    same_row w v (each_encodes w e) (stay_encoded w v (each_encodes w e) f) d f.beside

-- So is each such row of a table.
pub row_same : (t s : List (List ℕ)) (j : ℕ) → Framed t s → parts_encode (get_or t j []) ≡ true
    → record_of (table s) j ≡ record_of (table t) j → all_words (get_or s j []) ≡ all_words (get_or t j [])
unfolding table record_of
row_same t s j f e d =
    encoded_same (get_or t j []) (get_or s j []) e (f.row j)
    (sym (get_or-map decoded s j []) ∙ d ∙ get_or-map decoded t j [])

-- Rows that pass the test of their places all do so after a call that leaves each row passing.
pub all_stay : (test : ℕ → List ℕ → Bool) (k : ℕ) (t s : List (List ℕ)) → length s ≡ length t
    → ((j : ℕ) → j < length t → test (k + j) (get_or t j []) ≡ true → test (k + j) (get_or s j []) ≡ true)
    → all_from test k t ≡ true → all_from test k s ≡ true
unfolding all_from
all_stay test k [] [] n each e = refl
all_stay test k [] (y ∷ s) n each e = absurd (omega (arith, n))
all_stay test k (x ∷ t) [] n each e = absurd (omega (arith, n))
all_stay test k (x ∷ t) (y ∷ s) n each e =
    let here : k + 0 ≡ k = omega arith in
    both_hold _ _ (rw here at (each 0 (omega arith) (rw here (both_first _ _ e))))
    (all_stay test (suc k) t s (omega (arith, n))
    (λ j l p.
    let next : k + suc j ≡ suc k + j = omega arith in
    rw next at (each (suc j) (omega (arith, l)) (rw next p))) (both_second _ _ e))

-- A table of records' encodings is one after any call.
pub table_stays : (t s : List (List ℕ)) → Framed t s → table_encodes t ≡ true → table_encodes s ≡ true
unfolding table_encodes
table_stays t s f e =
    all_stay record_at 0 t s f.count (λ j l p. record_stays (get_or t j []) (get_or s j []) p (f.row j)) e
