-- Heights, rotations and the balancing of one node, over the table. Reads and stores stand in the source's order, since
-- the links of a damaged table may lead from two nodes to one.
use Rattle.std.specs.Prelude.{List, ℕ, ◌+◌, Option, Some, Result, Ok, Err}
use Rattle.refusal.specs.Answer.{damage}
use Rattle.refusal.specs.Cases.{if_less, given}
use Rattle.avl.specs.Rotation.{lean_of, on_lean}
use Rattle.thread.specs.declared.Links.{Links}
use Rattle.thread.specs.declared.ThreadRecord.{ThreadRecord}
use Rattle.thread.specs.Membership.{on_link}
use Rattle.rows.specs.Table.{Out, out, links_at, set_links}
use Rattle.rows.specs.TableCases.{on_links, on_made}
use Rattle.rotations.specs.Cases.{on_height, on_turned}
use Rattle.refusal.specs.declared.Damaged.{Damaged}

-- The stored height of the subtree under a link; 0 under none (`height`).
unfoldable pub height : List ThreadRecord → Option ℕ → Result ℕ Damaged
height t l = on_link l (Ok 0) (λ i. on_links (links_at t i) (Err damage) (λ m. Ok m.height))

-- The larger of two heights (`max`).
unfoldable pub larger : ℕ → ℕ → ℕ
larger a b = if_less a b b a

-- These links with the height that their two sides give, stored at a record; a height above 255 does not fit
-- (`update`).
unfoldable pub update : List ThreadRecord → ℕ → Links → Out (Result (Unit {0}) Damaged)
update t i l =
    on_height (height t l.left) (out (Err damage) t)
    (λ a. on_height (height t l.right) (out (Err damage) t)
    (λ b. given (larger a b)
    (λ m. if_less m 255
    (set_links t i (record { left = l.left; right = l.right; height = m + 1 }))
    (out (Err damage) t))))

-- The right child takes the node's place; both records are read before one is stored (`rotate_left`).
unfoldable pub rotate_left : List ThreadRecord → ℕ → Out (Result ℕ Damaged)
rotate_left t i =
    on_links (links_at t i) (out (Err damage) t)
    (λ l. on_link l.right (out (Err damage) t)
    (λ right. on_links (links_at t right) (out (Err damage) t)
    (λ m. on_made (update t i (record { left = l.left; right = m.left; height = l.height })) (out (Err damage))
    (λ t₁. on_made (update t₁ right (record { left = Some i; right = m.right; height = m.height }))
    (out (Err damage))
    (λ t₂. out (Ok right) t₂)))))

-- The left child takes the node's place (`rotate_right`).
unfoldable pub rotate_right : List ThreadRecord → ℕ → Out (Result ℕ Damaged)
rotate_right t i =
    on_links (links_at t i) (out (Err damage) t)
    (λ l. on_link l.left (out (Err damage) t)
    (λ left. on_links (links_at t left) (out (Err damage) t)
    (λ m. on_made (update t i (record { left = m.right; right = l.right; height = l.height })) (out (Err damage))
    (λ t₁. on_made (update t₁ left (record { left = m.left; right = Some i; height = m.height }))
    (out (Err damage))
    (λ t₂. out (Ok left) t₂)))))

-- The double rotation of `balance`: the left child is rotated outward, the old copy of the links is written back with
-- it, and the node is rotated.
abbrev pub double_right : List ThreadRecord → ℕ → Links → ℕ → Out (Result ℕ Damaged)
double_right t i l left =
    on_turned (rotate_left t left) (out (Err damage))
    (λ top t₁. on_made (set_links t₁ i (record { left = Some top; right = l.right; height = l.height }))
    (out (Err damage))
    (λ t₂. rotate_right t₂ i))

abbrev pub double_left : List ThreadRecord → ℕ → Links → ℕ → Out (Result ℕ Damaged)
double_left t i l right =
    on_turned (rotate_right t right) (out (Err damage))
    (λ top t₁. on_made (set_links t₁ i (record { left = l.left; right = Some top; height = l.height }))
    (out (Err damage))
    (λ t₂. rotate_left t₂ i))

-- `balance` where the left side is too high: its inner side is brought outward first where that is the higher.
unfoldable pub balance_left : List ThreadRecord → ℕ → Links → Out (Result ℕ Damaged)
balance_left t i l =
    on_link l.left (out (Err damage) t)
    (λ left. on_links (links_at t left) (out (Err damage) t)
    (λ child. on_height (height t child.left) (out (Err damage) t)
    (λ a. on_height (height t child.right) (out (Err damage) t)
    (λ b. if_less a b
    (double_right t i l left)
    (rotate_right t i)))))

-- `balance` where the right side is too high.
unfoldable pub balance_right : List ThreadRecord → ℕ → Links → Out (Result ℕ Damaged)
balance_right t i l =
    on_link l.right (out (Err damage) t)
    (λ right. on_links (links_at t right) (out (Err damage) t)
    (λ child. on_height (height t child.right) (out (Err damage) t)
    (λ a. on_height (height t child.left) (out (Err damage) t)
    (λ b. if_less a b
    (double_left t i l right)
    (rotate_left t i)))))

-- A node balanced by the stored heights of its sides (`balance`) (SPECIFICATION 6.2).
unfoldable pub balance : List ThreadRecord → ℕ → Out (Result ℕ Damaged)
balance t i =
    on_links (links_at t i) (out (Err damage) t)
    (λ l. on_height (height t l.left) (out (Err damage) t)
    (λ a. on_height (height t l.right) (out (Err damage) t)
    (λ b. on_lean (lean_of a b)
    (balance_left t i l)
    (balance_right t i l)
    (on_made (update t i l) (out (Err damage)) (λ t₁. out (Ok i) t₁)))))
