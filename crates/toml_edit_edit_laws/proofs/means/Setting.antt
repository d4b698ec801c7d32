-- What `set` means.
use Rattle.std.proofs.Common.{◌≡◌, ◌⊎◌, refl, sym, ◌∙◌, ap, subst, ℕ, Bool, true, false, List, [], ◌∷◌, ◌++◌, append-nil, Option, Some, None, inl, inr}
use Rattle.std.specs.Prelude.{◌||◌, if◌then◌else◌}
use Rattle.toml_edit_model.specs.Text.{Text}
use Rattle.toml_edit_model.specs.Paths.{at_key, Path, to_key, to_element}
use Rattle.toml_edit_model.specs.Meaning.{Fact, fact, a_table, SameFacts}
use Rattle.toml_edit_model.specs.Tree.{ArrayFields, Decor, Key, Node, nothing, leaf, list, inline, table, tables, Items, Slots, no_slots, slot, is_value_node, Tree}
use Rattle.toml_edit_model.specs.Tree.{IsWellMade, SlotsAreWellMade}
use Rattle.toml_edit_model.specs.Shown.{is_table_node, inside_facts, shown_meaning}
use Rattle.toml_edit_model.specs.Conversions.{new_inline, with_decor}
use Rattle.toml_edit_model.specs.Keys.{cleared_key, names}
use Rattle.toml_edit_model.specs.Slots.{Slot, keyed, with_item, lookup_slot, changed}
use Rattle.toml_edit_model.specs.ArrayCalls.{written_at}
use Rattle.toml_edit_model.specs.Lists.{slot_list, slots_from, item_list, items_from, is_item, only}
use Rattle.toml_edit_laws.specs.Locality.{is_plain_value}
use Rattle.toml_edit_edit_laws.specs.Commands.{done, element_of, present, second, child, and_then, item_at, item_below, change_slot, change_element}
use Rattle.toml_edit_edit_laws.specs.Commands.{root_item, set_at, set_below, set_here}
use Rattle.toml_edit_edit_laws.specs.CommandLaws.{made_below}
use Rattle.toml_edit_edit_laws.specs.Means.{step_to, meant_from, meant_at, facts_outside, IsMeant, MeansWith, AddMeans, SetMeans}
use Rattle.toml_edit_laws.proofs.common.Members.{from-contained}
use Rattle.toml_edit_laws.proofs.common.OptionSteps.{some-is}
use Rattle.toml_edit_laws.proofs.common.PathLaws.{is_front, front-more, front-refl}
use Rattle.toml_edit_laws.proofs.common.Tests.{or-true}
use Rattle.toml_edit_laws.proofs.locality.Slots.{HaveOtherKeys, Found, found, none-there as no-slot, slots_from-list}
use Rattle.toml_edit_laws.proofs.locality.Under.{apart-above}
use Rattle.toml_edit_laws.proofs.locality.Values.{plain-value}
use Rattle.toml_edit_edit_laws.proofs.commands.Apart.{named}
use Rattle.toml_edit_edit_laws.proofs.commands.Finding.{some-and}
use Rattle.toml_edit_edit_laws.proofs.commands.Setting.{was-mapped, done-is}
use Rattle.toml_edit_edit_laws.proofs.path_calls.Places.{names-join}
use Rattle.toml_edit_edit_laws.proofs.means.Absent.{absent_means}
use Rattle.toml_edit_edit_laws.proofs.means.Changes.{Below, Change, Changes, changes-around, changes-cons}
use Rattle.toml_edit_edit_laws.proofs.means.Facts.{facts_in, facts-below, told, slots_in, any_told, count, slot_in, slots-around, told-around, slots-none, slot-below, slots-under, others-out}
use Rattle.toml_edit_edit_laws.proofs.means.Parts.{shown_in, Replaces, shown-replaces, list-replaces, sees-facts}
use Rattle.toml_edit_edit_laws.proofs.means.Along.{meant-join, ItemPart, item-part, table-facts, inline-facts, MaySee, call-changes, sees-tree, same-facts}
use Rattle.toml_edit_edit_laws.proofs.means.Outside.{outside_with, below-goes, none-there, slot-goes, becomes, inline-told, plain-told, table-told, value-facts-in}

-- ---- what is set

-- a value that isn't a dotted inline table, with the facts of another
abbrev IsLike : Node → Node → Type 0
IsLike v b = (is_plain_value b ≡ true) × ((p : Path) → inside_facts b p ≡ inside_facts v p)

decor-like : (d : Decor) (v : Node) → is_plain_value v ≡ true → IsLike v (with_decor d v)
decor-like d (leaf s r e) h = (h, λ p. refl)
decor-like d (list f xs) h = (h, λ p. refl)
decor-like d (inline f ss) h = (h, λ p. refl)
decor-like d (table f ss) h = absurd cc
decor-like d (tables e xs) h = absurd cc
decor-like d nothing h = absurd cc

here-like : (v n b : Node) → is_plain_value v ≡ true → set_here v n ≡ done b → IsLike v b
here-like v nothing b plain h = subst (IsLike v) (done-is v b h) (plain, λ p. refl)
here-like v (table f ss) b plain h = absurd cc
here-like v (tables e xs) b plain h = absurd cc
here-like v (leaf s r d) b plain h = subst (IsLike v) (done-is (with_decor d v) b h) (decor-like d v plain)
here-like v (list f xs) b plain h = subst (IsLike v) (done-is (with_decor f.decor v) b h) (decor-like f.decor v plain)
here-like v (inline f ss) b plain h = subst (IsLike v) (done-is (with_decor f.decor v) b h) (decor-like f.decor v plain)

-- below new keys, inline tables are made
made-is : (v : Node) (inner : List Key) (b : Node) → set_below v inner nothing ≡ done b → b ≡ made_below inner v
made-is v [] b h = sym (done-is v b h)
made-is v (k ∷ inner) b h =
    let m = was-mapped (λ x. inline new_inline (slot (cleared_key k) x no_slots)) (set_below v inner nothing) b h in
    m.gives ∙ ap (λ x. inline new_inline (slot (cleared_key k) x no_slots)) (made-is v inner m.from m.is)

made-plain : (inner : List Key) (v : Node) → is_plain_value v ≡ true → is_plain_value (made_below inner v) ≡ true
made-plain [] v h = h
made-plain (k ∷ inner) v h = refl

some-facts : (v : Node) (p : Path) → is_value_node v ≡ true → inside_facts v p ≡ [] → ⊥
some-facts (leaf s r d) p h e = absurd cc
some-facts (list f xs) p h e = absurd cc
some-facts (inline f ss) p h e = absurd cc
some-facts (table f ss) p h e = absurd cc
some-facts (tables e xs) p h g = absurd cc
some-facts nothing p h e = absurd cc

-- ---- at a key or an element of an item

-- The rest of the path is one segment, or that segment leads to nothing.
module _ (k : Key) (inner : List Key) (v : Node) (plain : is_plain_value v ≡ true) (x : Node) (last : (inner ≡ []) ⊎ (child k.name x ≡ None))
    (q : Path) where
  abbrev new : Node
  new = made_below inner v

  abbrev place : Path
  place = q ++ (step_to k.name x ∷ [])

  abbrev change : Change
  change = outside_with place (inside_facts new place)

  out : is_front place q ≡ false
  out = apart-above q place (step_to k.name x) (front-refl place)

  new-value : is_value_node new ≡ true
  new-value = plain-value new (made-plain inner v plain)

  -- the item that stands at the segment after
  here : (a b : Node) → (child k.name x ≡ None → a ≡ nothing) → set_below v inner a ≡ done b → IsLike new b
  here a b none h = by_last last
    where
      at_end : (inner : List Key) → inner ≡ [] → set_below v inner a ≡ done b → IsLike (made_below inner v) b
      at_end [] e g = here-like v a b plain g
      at_end (j ∷ more) e g = absurd cc

      by_last : (inner ≡ []) ⊎ (child k.name x ≡ None) → IsLike new b
      by_last (inl e) = at_end inner e h
      by_last (inr e) =
          subst (IsLike new) (sym (made-is v inner b (ap (set_below v inner) (sym (none e)) ∙ h))) (made-plain inner v plain, λ p. refl)

  -- the slots of a table, with it
  record Filled (w : Bool) (ss us : Slots) : Type 0 where
    facts : Changes change (slots_in w ss q) (slots_in w us q)
    shown : any_told w us ≡ true

  filled : (at : step_to k.name x ≡ at_key k.name) (w : Bool) (ss : Slots) (front back : List (Slot Node)) (l : Key) (b : Node) (old : List Fact)
      → k.name ≡ l.name → HaveOtherKeys l.name front → HaveOtherKeys l.name back → IsLike new b
      → slots_in w ss q ≡ slots_in w (slots_from front) q ++ (old ++ slots_in w (slots_from back) q) → facts_outside place old ≡ []
      → Below (to_key q l.name) old → Filled w ss (slots_from (front ++ (keyed l b ∷ back)))
  filled at w ss front back l b old name a o like is gone below =
      let there : place ≡ to_key q l.name = ap (λ s. q ++ (s ∷ [])) (at ∙ ap at_key name) in
      let above : is_front (to_key q l.name) place ≡ true = subst (λ z. is_front z place ≡ true) there (front-refl place) in
      let shows : told w b ≡ true = plain-told w b like.0 in
      let own : slot_in w (keyed l b) q ≡ inside_facts new place =
      ap (λ z. if z then facts_in w b (to_key q l.name) else []) shows ∙ value-facts-in w b (to_key q l.name) (plain-value b like.0)
      ∙ like.1 (to_key q l.name) ∙ ap (inside_facts new) (sym there) in
      record {
        facts = subst (λ z. Changes change z (slots_in w (slots_from (front ++ (keyed l b ∷ back))) q)) (sym is)
            (subst (λ z. Changes change (slots_in w (slots_from front) q ++ (old ++ slots_in w (slots_from back) q)) z)
            (sym (slots-around w front (keyed l b) back q))
            (changes-around change (to_key q l.name) (slots_in w (slots_from front) q) old (slot_in w (keyed l b) q)
            (slots_in w (slots_from back) q) above below
            (λ r e. (others-out w q r l.name front e a, others-out w q r l.name back e o)) (becomes change old (slot_in w (keyed l b) q) gone own)));
        shown = told-around w front (keyed l b) back
            ∙ ap (λ z. any_told w (slots_from front) || (z || any_told w (slots_from back))) shows ∙ or-true (any_told w (slots_from front));
      }

  slots-filled : (at : step_to k.name x ≡ at_key k.name) (w : Bool) (ss : Slots) (xs : List (Slot Node)) → SlotsAreWellMade ss
      → child k.name x ≡ present (lookup_slot k.name (slot_list ss))
      → (o : Option (Slot Node)) → lookup_slot k.name (slot_list ss) ≡ o → change_slot true k (set_below v inner) (slot_list ss) o ≡ done xs
      → Filled w ss (slots_from xs)
  slots-filled at w ss xs made kid None e h =
      let m = was-mapped (λ b. slot_list ss ++ (keyed (cleared_key k) b ∷ [])) (set_below v inner nothing) xs h in
      subst (λ z. Filled w ss (slots_from z)) (sym m.gives)
      (filled at w ss (slot_list ss) [] (cleared_key k) m.from [] refl (no-slot k.name (slot_list ss) e) tt
      (here nothing m.from (λ z. refl) m.is)
      (sym (ap (λ z. slots_in w z q) (slots_from-list ss))
      ∙ sym (append-nil (slots_in w (slots_from (slot_list ss)) q))
      ∙ ap (λ z. slots_in w (slots_from (slot_list ss)) q ++ z) (sym (slots-none w q)))
      refl tt)
  slots-filled at w ss xs made kid (Some s) e h =
      let m = was-mapped (λ b. changed k.name (with_item b) (slot_list ss)) (set_below v inner s.item) xs h in
      let fd : Found k.name s (slot_list ss) = found k.name ss s made e in
      let there : to_key q s.key.name ≡ place = ap (λ z. q ++ (z ∷ [])) (sym (at ∙ ap at_key fd.named)) in
      subst (λ z. Filled w ss (slots_from z)) (sym (m.gives ∙ fd.change (with_item m.from)))
      (filled at w ss fd.front fd.back s.key m.from (slot_in w s q) fd.named fd.others_front fd.others_back
      (here s.item m.from (λ z. absent s.item (sym (kid ∙ ap present e) ∙ z)) m.is)
      (ap (λ z. slots_in w z q) (sym (slots_from-list ss) ∙ ap slots_from fd.is) ∙ slots-around w fd.front s fd.back q)
      (subst (λ z. facts_outside z (slot_in w s q) ≡ []) there (slot-goes w s q)) (slot-below w s q))
    where
      absent : (n : Node) → only is_item n ≡ None → n ≡ nothing
      absent nothing e = refl
      absent (leaf s r d) e = absurd cc
      absent (list f xs) e = absurd cc
      absent (inline f ss) e = absurd cc
      absent (table f ss) e = absurd cc
      absent (tables e xs) g = absurd cc

  shown-always : (s b : Bool) → b ≡ true → (s || b) ≡ true
  shown-always s b e = ap (λ z. s || z) e ∙ or-true s

  -- what adds facts is done where something is shown
  shown-there : (s u : Bool) → MaySee change q (front-more q (step_to k.name x ∷ [])) s u x q → shown_in s u x ≡ true
  shown-there s u (inl e) = absurd (some-facts new place new-value e)
  shown-there s u (inr z) = (sees-facts q s u x q z).0

value-no-table : (n : Node) → is_value_node n ≡ true → is_table_node n ≡ false
value-no-table (leaf s r d) h = refl
value-no-table (list f xs) h = refl
value-no-table (inline f ss) h = refl
value-no-table (table f ss) h = absurd cc
value-no-table (tables e xs) h = absurd cc
value-no-table nothing h = absurd cc

module _ (k : Key) (inner : List Key) (v : Node) (plain : is_plain_value v ≡ true) where
  list-replaced : (f : ArrayFields) (xs : Items) (last : (inner ≡ []) ⊎ (child k.name (list f xs) ≡ None)) (q : Path) (s u : Bool) (a : Node)
      → child k.name (list f xs) ≡ Some a → (ys : List Node) → ItemPart is_value_node (set_below v inner) k.name xs a ys
      → Replaces (change k inner v plain (list f xs) last q) s u (list f xs) (list f (items_from ys)) q
  list-replaced f xs last q s u a at ys r =
      let c : Change = change k inner v plain (list f xs) last q in
      let p : Path = place k inner v plain (list f xs) last q in
      let n : Path = to_element q (count true r.front) in
      let there : p ≡ n = ap (λ z. q ++ (z ∷ [])) r.step in
      let like = here k inner v plain (list f xs) last q a r.new (λ e. absurd (some-none a (sym at ∙ e))) r.is in
      let value : is_value_node r.new ≡ true = plain-value r.new like.0 in
      let part : Replaces c true true a r.new n =
      shown-replaces c true true a r.new n refl refl
      (becomes c (inside_facts a n) (inside_facts r.new n)
      (subst (λ z. facts_outside z (inside_facts a n) ≡ []) (sym there) (below-goes n (inside_facts a n) (facts-below true a n)))
      (like.1 n ∙ ap (inside_facts (made_below inner v)) (sym there)))
      (value ∙ sym r.kind) (value-no-table r.new value ∙ sym (value-no-table a r.kind)) in
      subst (λ z. Replaces c s u (list f xs) (list f (items_from z)) q) (sym r.after)
      (subst (λ z. Replaces c s u (list f z) (list f (items_from (r.front ++ (r.new ∷ r.back)))) q) (sym r.before)
      (list-replaces c s u q f r.front a r.new r.back (out k inner v plain (list f xs) last q)
      (subst (λ z. is_front z p ≡ true) there (front-refl p)) r.kind part))
    where
      some-none : (a : Node) → Some a ≡ None → ⊥
      some-none a e = cc

  -- what holds the place, before and after
  set-replaces : (x : Node) (last : (inner ≡ []) ⊎ (child k.name x ≡ None)) (q : Path) (y : Node) (s u : Bool)
      → set_below v (k ∷ inner) x ≡ done y → IsWellMade x
      → MaySee (change k inner v plain x last q) q (front-more q (step_to k.name x ∷ [])) s u x q
      → Replaces (change k inner v plain x last q) s u x y q
  set-replaces (table f ss) last q y s u h w see =
      let c : Change = change k inner v plain (table f ss) last q in
      let b = was-mapped (λ xs. table f (slots_from xs)) (change_slot true k (set_below v inner) (slot_list ss) (lookup_slot k.name (slot_list ss))) y h in
      let us : Slots = slots_from b.from in
      let r = slots-filled k inner v plain (table f ss) last q refl u ss b.from w refl (lookup_slot k.name (slot_list ss)) refl b.is in
      subst (λ z. Replaces c s u (table f ss) z q) (sym b.gives)
      (shown-replaces c s u (table f ss) (table f us) q (shown-there k inner v plain (table f ss) last q s u see)
      (shown-always k inner v plain (table f ss) last q s (told u (table f us)) (table-told u f us r.shown))
      (subst (λ z. Changes c z (facts_in u (table f us) q)) (sym (table-facts u f ss q))
      (subst (λ z. Changes c (fact q a_table ∷ slots_in u ss q) z) (sym (table-facts u f us q))
      (changes-cons c (fact q a_table) (slots_in u ss q) (slots_in u us q) (out k inner v plain (table f ss) last q) (slots-under u ss q) r.facts)))
      refl refl)
  set-replaces (inline f ss) last q y s u h w see =
      let c : Change = change k inner v plain (inline f ss) last q in
      let b = was-mapped (λ xs. inline f (slots_from xs)) (change_slot true k (set_below v inner) (slot_list ss) (lookup_slot k.name (slot_list ss))) y h in
      let us : Slots = slots_from b.from in
      let r = slots-filled k inner v plain (inline f ss) last q refl true ss b.from w refl (lookup_slot k.name (slot_list ss)) refl b.is in
      subst (λ z. Replaces c s u (inline f ss) z q) (sym b.gives)
      (shown-replaces c s u (inline f ss) (inline f us) q (shown-there k inner v plain (inline f ss) last q s u see)
      (shown-always k inner v plain (inline f ss) last q s (told u (inline f us)) (inline-told u f us r.shown))
      (subst (λ z. Changes c z (facts_in u (inline f us) q)) (sym (inline-facts u f ss q))
      (subst (λ z. Changes c (fact q a_table ∷ slots_in true ss q) z) (sym (inline-facts u f us q))
      (changes-cons c (fact q a_table) (slots_in true ss q) (slots_in true us q) (out k inner v plain (inline f ss) last q) (slots-under true ss q) r.facts)))
      refl refl)
  set-replaces (list f xs) last q y s u h w see =
      let b = was-mapped (λ ns. list f (items_from ns)) (change_element (set_below v inner) (item_list xs) (element_of is_value_node k.name (item_list xs))) y h in
      let a = element-there (element_of is_value_node k.name (item_list xs)) b.from b.is in
      subst (λ z. Replaces (change k inner v plain (list f xs) last q) s u (list f xs) z q) (sym b.gives)
      (list-replaced f xs last q s u a.0 a.1 b.from (item-part is_value_node (set_below v inner) k.name xs a.0 b.from w a.1 b.is))
    where
      element-there : (o : Option (ℕ × Node)) (ns : List Node) → change_element (set_below v inner) (item_list xs) o ≡ done ns → (a : Node)
          × (second o ≡ Some a)
      element-there None ns g = absurd cc
      element-there (Some z) ns g = (z.1, refl)
  set-replaces (tables e xs) last q y s u h w see =
      let b = was-mapped (λ ns. tables e (items_from ns)) (change_element (set_below v inner) (item_list xs) (element_of is_table_node k.name (item_list xs))) y h in
      absurd (no-element last (element_of is_table_node k.name (item_list xs)) refl b.from b.is)
    where
      no-table : (n b : Node) → is_table_node n ≡ true → set_here v n ≡ done b → ⊥
      no-table (table f ss) b i g = cc
      no-table (tables e xs) b i g = cc
      no-table (leaf s r d) b i g = cc
      no-table (list f xs) b i g = cc
      no-table (inline f ss) b i g = cc
      no-table nothing b i g = cc

      no-element : (inner ≡ []) ⊎ (second (element_of is_table_node k.name (item_list xs)) ≡ None) → (o : Option (ℕ × Node))
          → element_of is_table_node k.name (item_list xs) ≡ o → (ns : List Node) → change_element (set_below v inner) (item_list xs) o ≡ done ns → ⊥
      no-element l None i ns g = cc
      no-element (inl l) (Some z) i ns g =
          let m = was-mapped (λ m. written_at z.0 m (item_list xs)) (set_below v inner z.1) ns g in
          no-table z.1 m.from (named is_table_node k.name (item_list xs) z i).kind (ap (λ p. set_below v p z.1) (sym l) ∙ m.is)
      no-element (inr l) (Some z) i ns g = let no : Some z.1 ≡ None = ap second (sym i) ∙ l in cc
  set-replaces (leaf s r d) last q y t u h w see = absurd cc
  set-replaces nothing last q y s u h w see = absurd (by_value u see)
    where
      by_value : (u : Bool) → MaySee (change k inner v plain nothing last q) q (front-more q (at_key k.name ∷ [])) s u nothing q → ⊥
      by_value u (inl e) =
          some-facts (made_below inner v) (place k inner v plain nothing last q) (new-value k inner v plain nothing last q) e
      by_value true (inr z) = (sees-facts q s true nothing q z).1.1
      by_value false (inr z) = (sees-facts q s false nothing q z).1.1

-- ---- the tree

module _ (t u : Tree) (path : List Key) (x : Node) (k : Key) (inner : List Key) (v : Node) (made : SlotsAreWellMade t.slots)
    (at : item_at (names path) t ≡ Some x) (meant : IsMeant t (meant_at t (names path))) (plain : is_plain_value v ≡ true)
    (last : (inner ≡ []) ⊎ (child k.name x ≡ None)) (is_done : set_at (path ++ (k ∷ inner)) v t ≡ done u) where
  abbrev q : Path
  q = meant_at t (names path)

  abbrev there : Path
  there = meant_at t (names (path ++ (k ∷ [])))

  place-is : there ≡ q ++ (step_to k.name x ∷ [])
  place-is = ap (λ p. meant_from [] p (root_item t)) (names-join path (k ∷ [])) ∙ meant-join [] (names path) (k.name ∷ []) (root_item t) x at

  pub set-means : MeansWith there (inside_facts (made_below inner v) there) t u
  set-means =
      let c : Change = change k inner v plain x last q in
      subst (λ z. MeansWith z (inside_facts (made_below inner v) z) t u) (sym place-is)
      (same-facts c (shown_meaning t) (shown_meaning u) (λ f e. e)
      (call-changes c q (front-more q (step_to k.name x ∷ [])) (λ k. k) true (set_below v) (k ∷ inner) (λ j p n. refl) x
      (λ y s w h wx one see. set-replaces k inner v plain x last q y s w h wx see)
      t u path made at refl (inr (sees-tree t q meant)) is_done))

-- where something is meant, an item is there
meant-there : (t : Tree) (path : List Text) → SlotsAreWellMade t.slots → IsMeant t (meant_at t path) → (n : Node) × (item_at path t ≡ Some n)
meant-there t path made (f, m, at) = by_item (item_at path t) refl
  where
    by_item : (o : Option Node) → item_at path t ≡ o → (n : Node) × (item_at path t ≡ Some n)
    by_item (Some n) e = (n, e)
    by_item None e =
        absurd (none-there (meant_at t path) (shown_meaning t) f (absent_means t path made e) (from-contained f (shown_meaning t) m) at)

pub set_means : SetMeans
set_means t u path k v made meant plain h =
    let n = meant-there t (names path) made meant in
    set-means t u path n.0 k [] v made n.1 meant plain (inl refl) h

-- what a path with a segment more leads to
below-join : (path : List Text) (k : Text) (n x : Node) → item_below path n ≡ Some x → child k x ≡ item_below (path ++ (k ∷ [])) n
below-join [] k n x h = sym (some-of (child k x)) ∙ ap (λ y. and_then (λ z. Some z) (child k y)) (sym (some-is n x h))
  where
    some-of : (o : Option Node) → and_then (λ z. Some z) o ≡ o
    some-of None = refl
    some-of (Some y) = refl
below-join (j ∷ path) k n x h =
    let a = some-and (item_below path) (child j n) x h in
    below-join path k a.0 x a.2 ∙ sym (ap (and_then (item_below (path ++ (k ∷ [])))) a.1)

pub add_means : AddMeans
add_means t u path k more v made meant none plain h =
    let p : Path = meant_at t (names (path ++ (k ∷ []))) in
    let n = meant-there t (names path) made meant in
    let absent : child k.name n.0 ≡ None =
    below-join (names path) k.name (root_item t) n.0 n.1 ∙ ap (λ q. item_at q t) (sym (names-join path (k ∷ []))) ∙ none in
    subst (λ fs. SameFacts (shown_meaning u) (fs ++ inside_facts (made_below more v) p)) (absent_means t (names (path ++ (k ∷ []))) made none)
    (set-means t u path n.0 k more v made n.1 meant plain (inr absent) h)
