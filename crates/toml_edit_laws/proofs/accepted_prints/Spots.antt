-- What stands at a numbered path of a tree, and which roles a printed statement may give it.
use Rattle.std.proofs.Common.{◌≡◌, refl, sym, ◌∙◌, ap, subst, ℕ, zero, suc, ◌+◌, Bool, true, false, List, [], ◌∷◌, ◌++◌, append_assoc, ◌⊎◌}
use Rattle.std.proofs.Common.{inl, inr}
use Rattle.std.specs.Prelude.{◌&&◌, ◌||◌, not, if◌then◌else◌}
use Rattle.std.specs.List.{list_all}
use Rattle.toml_edit_model.specs.Text.{Text, same_text}
use Rattle.toml_edit_model.specs.Paths.{at_key, at_element, Path, to_key}
use Rattle.toml_edit_model.specs.Tree.{Key, Node, leaf, list, inline, table, tables, Items, no_items, item, Slots, no_slots, slot, has_key}
use Rattle.toml_edit_laws.proofs.common.Members.{Among, passes-among}
use Rattle.toml_edit_laws.proofs.common.Tests.{and_left, and_right, and_both, append-nil, same_text-refl, same_text-is, false-by}
use Rattle.toml_edit_laws.proofs.common.Tests.{true-false, if-true, if-false, or-true}
use Rattle.toml_edit_model.specs.Roles.{Role, dotted_role, implied_role, header_role, array_role, value_role, continued_role, may_meet}
use Rattle.toml_edit_model.specs.Roles.{is_header_role, is_value_role}

-- a line's value, so many keys below the table that it is a line of; a table that lines go through; a table with a header; an array
-- of tables
pub data Spot : Type 0 where
  absent : Spot
  valued : ℕ → Spot
  dotted : Spot
  headed : Spot
  arrayed : Spot

-- inside an inline table, so many keys below the table of its line
abbrev mutual
  pub inside_node_spot : Node → ℕ → Path → Spot
  inside_node_spot (leaf s r x) d [] = valued d
  inside_node_spot (list f xs) d [] = valued d
  inside_node_spot (inline f ss) d [] = if f.is_dotted then dotted else valued d
  inside_node_spot (inline f ss) d (at_key k ∷ q) = inside_spot ss d k q
  inside_node_spot (table f ss) d [] = dotted
  inside_node_spot (table f ss) d (at_key k ∷ q) = inside_spot ss d k q
  inside_node_spot _ d q = absent

  pub inside_spot : Slots → ℕ → Text → Path → Spot
  inside_spot no_slots d k q = absent
  inside_spot (slot l n ss) d k q = if same_text k l.name then inside_node_spot n (suc d) q else inside_spot ss d k q

abbrev mutual
  pub node_spot : Node → ℕ → Path → Spot
  node_spot (leaf s r x) d [] = valued d
  node_spot (list f xs) d [] = valued d
  node_spot (inline f ss) d [] = if f.is_dotted then dotted else valued d
  node_spot (inline f ss) d (at_key k ∷ q) = inside_spot ss d k q
  node_spot (table f ss) d [] = if f.is_dotted then dotted else headed
  node_spot (table f ss) d (at_key k ∷ q) = slots_spot ss (if f.is_dotted then d else 0) k q
  node_spot (tables e xs) d [] = arrayed
  node_spot (tables e xs) d (at_element n ∷ q) = items_spot xs n q
  node_spot _ d q = absent

  pub items_spot : Items → ℕ → Path → Spot
  items_spot no_items n q = absent
  items_spot (item (table f ss) xs) zero q = node_spot (table f ss) 0 q
  items_spot (item (table f ss) xs) (suc n) q = items_spot xs n q
  items_spot (item n xs) m q = items_spot xs m q

  pub slots_spot : Slots → ℕ → Text → Path → Spot
  slots_spot no_slots d k q = absent
  slots_spot (slot l n ss) d k q = if same_text k l.name then node_spot n (suc d) q else slots_spot ss d k q

abbrev pub tree_spot : Slots → Path → Spot
tree_spot ss [] = headed
tree_spot ss (at_key k ∷ q) = slots_spot ss 0 k q
tree_spot ss (at_element n ∷ q) = absent

-- ---- which roles may stand there

abbrev pub suits : Role → Spot → Bool
suits continued_role _ = true
suits dotted_role dotted = true
suits implied_role dotted = true
suits implied_role headed = true
suits header_role headed = true
suits array_role arrayed = true
suits value_role (valued d) = true
suits _ _ = false

-- Two roles that suit one spot may meet, unless both are of its own header or of its own value.
abbrev pub Meet : Role → Role → Type 0
Meet r q = (may_meet r q ≡ true) ⊎ (((r ≡ header_role) × (q ≡ header_role)) ⊎ ((r ≡ value_role) × (q ≡ value_role)))

abbrev meets : Role → Role → Bool
meets r q = may_meet r q || ((is_header_role r && is_header_role q) || (is_value_role r && is_value_role q))

abbrev roles : List Role
roles = dotted_role ∷ implied_role ∷ header_role ∷ array_role ∷ value_role ∷ continued_role ∷ []

each-role : (r : Role) → Among r roles
each-role dotted_role = inl refl
each-role implied_role = inr (inl refl)
each-role header_role = inr (inr (inl refl))
each-role array_role = inr (inr (inr (inl refl)))
each-role value_role = inr (inr (inr (inr (inl refl))))
each-role continued_role = inr (inr (inr (inr (inr (inl refl)))))

-- every two roles, at each spot
all-meet : (s : Spot) → list_all (λ r. list_all (λ q. not (suits r s && suits q s) || meets r q) roles) roles ≡ true
all-meet absent = refl
all-meet (valued d) = refl
all-meet dotted = refl
all-meet headed = refl
all-meet arrayed = refl

is-header : (r : Role) → is_header_role r ≡ true → r ≡ header_role
is-header dotted_role h = absurd cc
is-header implied_role h = absurd cc
is-header header_role h = refl
is-header array_role h = absurd cc
is-header value_role h = absurd cc
is-header continued_role h = absurd cc

is-value : (r : Role) → is_value_role r ≡ true → r ≡ value_role
is-value dotted_role h = absurd cc
is-value implied_role h = absurd cc
is-value header_role h = absurd cc
is-value array_role h = absurd cc
is-value value_role h = refl
is-value continued_role h = absurd cc

pub suiting-meet : (s : Spot) (r q : Role) → suits r s ≡ true → suits q s ≡ true → Meet r q
suiting-meet s r q h g =
    let row = passes-among (λ r. list_all (λ q. not (suits r s && suits q s) || meets r q) roles) r roles (all-meet s) (each-role r) in
    let both : (not (suits r s && suits q s) || meets r q) ≡ true =
    passes-among (λ q. not (suits r s && suits q s) || meets r q) q roles row (each-role q) in
    by_test (may_meet r q) refl (is_header_role r && is_header_role q) refl
    (sym (ap (λ b. not b || meets r q) (and_both (suits r s) (suits q s) h g)) ∙ both)
  where
    by_test : (b : Bool) → may_meet r q ≡ b → (c : Bool) → (is_header_role r && is_header_role q) ≡ c
        → (b || (c || (is_value_role r && is_value_role q)))
        ≡ true → Meet r q
    by_test true e c f m = inl e
    by_test false e true f m =
        inr (inl (
          is-header r (and_left (is_header_role r) (is_header_role q) f),
          is-header q
              (and_right (is_header_role r) (is_header_role q) f),
        ))
    by_test false e false f m =
        inr (inr (
          is-value r (and_left (is_value_role r) (is_value_role q) m),
          is-value q
              (and_right (is_value_role r) (is_value_role q) m),
        ))

-- ---- a map of all paths sees the slots of a table

module _ (K : Path → Spot) where
  abbrev pub Sees : Path → Slots → ℕ → Type 0
  Sees p ss d = (k : Text) (q : Path) → has_key k ss ≡ true → K (p ++ (at_key k ∷ q)) ≡ slots_spot ss d k q

  abbrev pub SeesInside : Path → Slots → ℕ → Type 0
  SeesInside p ss d = (k : Text) (q : Path) → has_key k ss ≡ true → K (p ++ (at_key k ∷ q)) ≡ inside_spot ss d k q

  abbrev pub SeesNode : Path → Node → ℕ → Type 0
  SeesNode p n d = (q : Path) → K (p ++ q) ≡ node_spot n d q

  abbrev pub SeesNodeInside : Path → Node → ℕ → Type 0
  SeesNodeInside p n d = (q : Path) → K (p ++ q) ≡ inside_node_spot n d q

  abbrev pub SeesItems : Path → Items → ℕ → Type 0
  SeesItems p xs i = (m : ℕ) (q : Path) → K (p ++ (at_element (i + m) ∷ q)) ≡ items_spot xs m q

  own-key : (k : Key) (n : Node) (ss : Slots) → has_key k.name (slot k n ss) ≡ true
  own-key k n ss = ap (λ b. b || has_key k.name ss) (same_text-refl k.name)

  -- a later key isn't the first
  other-key : (k : Text) (l : Key) (ss : Slots) → has_key l.name ss ≡ false → has_key k ss ≡ true → same_text k l.name ≡ false
  other-key k l ss h g =
      false-by (same_text k l.name) (λ e. true-false (has_key k ss) g (subst (λ x. has_key x ss ≡ false) (sym (same_text-is k l.name e)) h))

  pub sees-first : (p : Path) (k : Key) (n : Node) (ss : Slots) (d : ℕ) → Sees p (slot k n ss) d → SeesNode (to_key p k.name) n (suc d)
  sees-first p k n ss d h q =
      ap K (append_assoc p (at_key k.name ∷ []) q) ∙ h k.name q (own-key k n ss)
      ∙ if-true (same_text k.name k.name) (node_spot n (suc d) q) (slots_spot ss d k.name q) (same_text-refl k.name)

  pub sees-rest : (p : Path) (k : Key) (n : Node) (ss : Slots) (d : ℕ) → has_key k.name ss ≡ false → Sees p (slot k n ss) d → Sees p ss d
  sees-rest p k n ss d none h l q g =
      h l q (ap (λ b. same_text l k.name || b) g ∙ or-true (same_text l k.name))
      ∙ if-false (same_text l k.name) (node_spot n (suc d) q) (slots_spot ss d l q) (other-key l k ss none g)

  pub inside-first : (p : Path) (k : Key) (n : Node) (ss : Slots) (d : ℕ) → SeesInside p (slot k n ss) d
      → SeesNodeInside (to_key p k.name) n (suc d)
  inside-first p k n ss d h q =
      ap K (append_assoc p (at_key k.name ∷ []) q) ∙ h k.name q (own-key k n ss)
      ∙ if-true (same_text k.name k.name) (inside_node_spot n (suc d) q) (inside_spot ss d k.name q) (same_text-refl k.name)

  pub inside-rest : (p : Path) (k : Key) (n : Node) (ss : Slots) (d : ℕ) → has_key k.name ss ≡ false → SeesInside p (slot k n ss) d
      → SeesInside p ss d
  inside-rest p k n ss d none h l q g =
      h l q (ap (λ b. same_text l k.name || b) g ∙ or-true (same_text l k.name))
      ∙ if-false (same_text l k.name) (inside_node_spot n (suc d) q) (inside_spot ss d l q) (other-key l k ss none g)

  pub sees-here : (p : Path) (n : Node) (d : ℕ) → SeesNode p n d → K p ≡ node_spot n d []
  sees-here p n d h = ap K (sym (append-nil p)) ∙ h []

  pub inside-here : (p : Path) (n : Node) (d : ℕ) → SeesNodeInside p n d → K p ≡ inside_node_spot n d []
  inside-here p n d h = ap K (sym (append-nil p)) ∙ h []

-- the map of a tree sees its slots
pub tree-sees : (ss : Slots) → Sees (tree_spot ss) [] ss 0
tree-sees ss k q h = refl
