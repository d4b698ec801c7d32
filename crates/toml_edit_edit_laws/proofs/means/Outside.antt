-- Changes that leave the facts outside of a path, and those that map facts.
use Rattle.std.proofs.Common.{◌≡◌, refl, sym, ◌∙◌, ap, subst, Bool, true, false, List, [], ◌∷◌, ◌++◌, append-nil, inl}
use Rattle.std.specs.Prelude.{not, ◌||◌, if◌then◌else◌}
use Rattle.std.proofs.lemmas.List.Elements.{filter-append}
use Rattle.toml_edit_model.specs.Paths.{Path}
use Rattle.toml_edit_model.specs.Meaning.{Fact}
use Rattle.toml_edit_model.specs.Tree.{InlineFields, Key, TableFields, Node, Slots, nothing, leaf, list, inline, table, tables, is_value_node}
use Rattle.toml_edit_model.specs.Shown.{is_shown, is_shown_inside, shows_inside, inside_facts, node_facts}
use Rattle.toml_edit_model.specs.Slots.{Slot, keyed}
use Rattle.toml_edit_model.specs.Lists.{is_dotted_inline}
use Rattle.toml_edit_model.specs.Paths.{to_key}
use Rattle.toml_edit_laws.specs.Locality.{is_at_or_below, is_plain_value}
use Rattle.toml_edit_edit_laws.specs.Means.{facts_outside}
use Rattle.toml_edit_laws.proofs.common.Each.{filter-passes}
use Rattle.toml_edit_laws.proofs.common.Members.{Among, all-among}
use Rattle.toml_edit_laws.proofs.common.Tests.{if-true, if-false, not-true, or-true, true-false}
use Rattle.toml_edit_laws.proofs.locality.Under.{front-is}
use Rattle.toml_edit_laws.proofs.locality.Values.{plain-value, plain-undotted}
use Rattle.toml_edit_laws.proofs.print_meaning.FactSets.{Alike}
use Rattle.toml_edit_edit_laws.proofs.means.Changes.{Below, Change, Changes}
use Rattle.toml_edit_edit_laws.proofs.means.Facts.{facts_in, facts-below, any_told, told, slot_in}

-- the facts at the path and below it go, and others come
abbrev pub outside_with : Path → List Fact → Change
outside_with p gs = record {
  place = p;
  on = facts_outside p;
  adds = gs;
  MayGo = λ f. ⊥;
  none = refl;
  append = filter-append (λ f. not (is_at_or_below p f.path));
  others = λ f h. if-true (not (is_at_or_below p f.path)) (f ∷ []) [] (ap not (front-is p f.path ∙ h));
  gone = λ f fs a m. absurd m;
}

pub below-goes : (p : Path) (fs : List Fact) → Below p fs → facts_outside p fs ≡ []
below-goes p [] h = refl
below-goes p (f ∷ fs) h =
    if-false (not (is_at_or_below p f.path)) (f ∷ facts_outside p fs) (facts_outside p fs) (ap not (front-is p f.path ∙ h.0))
    ∙ below-goes p fs h.1

-- where all facts are outside of a path, none is at it or below it
pub none-there : (p : Path) (fs : List Fact) (f : Fact) → facts_outside p fs ≡ fs → Among f fs → is_at_or_below p f.path ≡ true → ⊥
none-there p fs f same m at =
    let test : Fact → Bool = λ g. not (is_at_or_below p g.path) in
    true-false (is_at_or_below p f.path) at
    (not-true (is_at_or_below p f.path)
    (all-among (λ (g : Fact). test g ≡ true) f (facts_outside p fs) (filter-passes test fs) (subst (Among f) (sym same) m)))

-- so do the facts of a slot there
pub slot-goes : (v : Bool) (s : Slot Node) (p : Path) → facts_outside (to_key p s.key.name) (slot_in v s p) ≡ []
slot-goes v s p =
    let r : Path = to_key p s.key.name in
    by_test (told v s.item) (facts_in v s.item r) (below-goes r (facts_in v s.item r) (facts-below v s.item r))
  where
    by_test : (b : Bool) (fs : List Fact) → facts_outside (to_key p s.key.name) fs ≡ []
        → facts_outside (to_key p s.key.name) (if b then fs else []) ≡ []
    by_test true fs h = h
    by_test false fs h = refl

-- what goes as a whole, for what comes
pub becomes : (c : Change) (old new : List Fact) → c.on old ≡ [] → new ≡ c.adds → Changes c old new
becomes c old new gone is =
    let all : new ≡ c.on old ++ c.adds = is ∙ ap (λ fs. fs ++ c.adds) (sym gone) in
    (λ f m. subst (Among f) all m, λ f m. inl (subst (Among f) (sym all) m))

-- the facts stay
abbrev pub stays_at : Path → Change
stays_at p = record {
  place = p;
  on = λ fs. fs;
  adds = [];
  MayGo = λ f. ⊥;
  none = refl;
  append = λ xs ys. refl;
  others = λ f h. refl;
  gone = λ f fs a m. absurd m;
}

-- facts that are mapped, and those that are the same in another order
pub becomes-mapped : (c : Change) (old new : List Fact) → c.adds ≡ [] → Alike new (c.on old) → Changes c old new
becomes-mapped c old new none is =
    let all : c.on old ≡ c.on old ++ c.adds = sym (ap (λ fs. c.on old ++ fs) none ∙ append-nil (c.on old)) in
    (λ f m. subst (Among f) all (is.0 f m), λ f m. inl (is.1 f (subst (Among f) (sym all) m)))

-- ---- values

-- a plain value is shown, with the facts of a value
value-shown : (n : Node) → is_value_node n ≡ true → is_dotted_inline n ≡ false → is_shown n ≡ true
value-shown (leaf s r d) h e = refl
value-shown (list f xs) h e = refl
value-shown (inline f ss) h e = ap (λ b. not b || shows_inside ss) e
value-shown (table f ss) h e = absurd cc
value-shown (tables x xs) h e = absurd cc
value-shown nothing h e = absurd cc

value-facts : (n : Node) (p : Path) → is_value_node n ≡ true → node_facts n p ≡ inside_facts n p
value-facts (leaf s r d) p h = refl
value-facts (list f xs) p h = refl
value-facts (inline f ss) p h = refl
value-facts (table f ss) p h = absurd cc
value-facts (tables x xs) p h = absurd cc
value-facts nothing p h = absurd cc

same-told : (n : Node) → is_value_node n ≡ true → is_shown_inside n ≡ is_shown n
same-told (leaf s r d) h = refl
same-told (list f xs) h = refl
same-told (inline f ss) h = refl
same-told (table f ss) h = absurd cc
same-told (tables e xs) h = absurd cc
same-told nothing h = absurd cc

pub plain-told : (v : Bool) (n : Node) → is_plain_value n ≡ true → told v n ≡ true
plain-told true n h =
    same-told n (plain-value n h) ∙ value-shown n (plain-value n h) (plain-undotted n h)
plain-told false n h = value-shown n (plain-value n h) (plain-undotted n h)

pub value-facts-in : (v : Bool) (n : Node) (p : Path) → is_value_node n ≡ true → facts_in v n p ≡ inside_facts n p
value-facts-in true n p h = refl
value-facts-in false n p h = value-facts n p h

-- a slot's
pub plain-facts : (v : Bool) (k : Key) (n : Node) (p : Path) → is_plain_value n ≡ true
    → slot_in v (keyed k n) p ≡ inside_facts n (to_key p k.name)
plain-facts v k n p plain =
    if-true (told v n) (facts_in v n (to_key p k.name)) [] (plain-told v n plain) ∙ value-facts-in v n (to_key p k.name) (plain-value n plain)

-- ---- tables

-- a table is shown for its slots
pub table-told : (u : Bool) (f : TableFields) (us : Slots) → any_told u us ≡ true → told u (table f us) ≡ true
table-told true f us h = h
table-told false f us h = ap (λ z. not (f.is_dotted || f.is_implicit) || z) h ∙ or-true (not (f.is_dotted || f.is_implicit))

pub inline-told : (u : Bool) (f : InlineFields) (us : Slots) → any_told true us ≡ true → told u (inline f us) ≡ true
inline-told true f us h = ap (λ z. not f.is_dotted || z) h ∙ or-true (not f.is_dotted)
inline-told false f us h = ap (λ z. not f.is_dotted || z) h ∙ or-true (not f.is_dotted)
