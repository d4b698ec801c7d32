-- An empty table more, whose header is printed after all others.
use Rattle.std.proofs.Common.{◌≡◌, refl, sym, ◌∙◌, ap, subst, ℤ, pos, arith, Bool, true, false, List, [], ◌∷◌, ◌++◌, append_assoc, append-nil, Some, None}
use Rattle.std.specs.Prelude.{◌||◌, ◌&&◌, if◌then◌else◌, int_le, int_lt, not, filter, flat_map, map, Err, Ok, take}
use Rattle.std.specs.List.{AllByRecursion}
use Rattle.std.proofs.lemmas.Grind.{flat_map-append}
use Rattle.std.proofs.lemmas.Int.{ints}
use Rattle.std.proofs.lemmas.List.Elements.{filter-append}
use Rattle.toml_edit_model.specs.Conversions.{new_table}
use Rattle.toml_edit_model.specs.Fits.{has_steady_header, is_steady_in}
use Rattle.toml_edit_model.specs.HeaderOrder.{Visit, node_walk, slots_walk, visit_of, walk}
use Rattle.toml_edit_model.specs.Keys.{cleared_key, names}
use Rattle.toml_edit_model.specs.Lists.{is_dotted_inline, slot_list}
use Rattle.toml_edit_model.specs.Mode.{Mode}
use Rattle.toml_edit_model.specs.Order.{insert_by, sorted_by}
use Rattle.toml_edit_model.specs.Paths.{Path, at_key, to_key}
use Rattle.toml_edit_model.specs.Print.{Printed, header_statement, printed, printed_table}
use Rattle.toml_edit_model.specs.Slots.{Slot, keyed, lookup_slot}
use Rattle.toml_edit_model.specs.Text.{Text, is_empty}
use Rattle.toml_edit_model.specs.Tree.{IsWellMade, Key, Node, SlotsAreWellMade, Tree, no_slots, slot, table}
use Rattle.toml_edit_laws.specs.Locality.{Leads, StaysSteady, Turn, edited, is_at_or_below, root_visit}
use Rattle.toml_edit_laws.proofs.common.Each.{all-append, all-back, all-filter, all-front, all-map}
use Rattle.toml_edit_laws.proofs.common.Lists.{not_empty-last}
use Rattle.toml_edit_laws.proofs.common.OrderLaws.{all-sorted}
use Rattle.toml_edit_laws.proofs.common.PathLaws.{front-refl, is_front}
use Rattle.toml_edit_laws.proofs.common.Tests.{if-false, if-true, or-true}
use Rattle.toml_edit_laws.proofs.locality.Along.{Whole, tree_blocks, whole-tree}
use Rattle.toml_edit_laws.proofs.locality.Blocks.{Block, IsSteadyBlock, bare, block_of, block_printed, blocks, blocks-append, is_headed, place, printed_blocks, stands_first}
use Rattle.toml_edit_laws.proofs.locality.Edited.{firm-visits, stays-steady, whole-steady}
use Rattle.toml_edit_laws.proofs.locality.Made.{added_stays_made}
use Rattle.toml_edit_laws.proofs.locality.Printing.{printed_all, printed-tree}
use Rattle.toml_edit_laws.proofs.locality.Replacing.{itself, map-itself}
use Rattle.toml_edit_laws.proofs.locality.Slots.{HaveOtherKeys, lines-append, none-there, slots_from-list, slots_under, walk-append}
use Rattle.toml_edit_laws.proofs.locality.Sound.{NodeIsSound, SlotsAreSound, Steady, along-sound, sound-append, steady-parts}
use Rattle.toml_edit_laws.proofs.locality.Splice.{BlockSplice, LineSplice, other-blocks-out, other-lines-out}
use Rattle.toml_edit_laws.proofs.locality.Under.{IsBlockOut, IsBlockUnder, IsLineOut, front-is, node-under, slot_lines}
use Rattle.toml_edit_edit_laws.specs.Commands.{item_at, root_item}
use Rattle.toml_edit_edit_laws.specs.CommandLaws.{AreSpelled, NamesTable}
use Rattle.toml_edit_edit_laws.specs.Staying.{StaysButAt}
use Rattle.toml_edit_edit_laws.proofs.commands.Going.{item-along}
use Rattle.toml_edit_edit_laws.proofs.path_calls.Places.{new-place}
use Rattle.toml_edit_edits.specs.Effects.{changed_at}
use Rattle.toml_edit_edits.specs.FirstTable.{held_below}
use Rattle.toml_edit_edits.specs.Missing.{is_numbered, keys_there}
use Rattle.toml_edit_edits.specs.Moves.{put_in}
use Rattle.toml_edit_edits.specs.OthersStay.{AddsHeader, IsNewBelow, SectionAddsHeader, section_visit}
use Rattle.toml_edit_edits.specs.Sections.{HasNextPosition, next_position, section, section_at, section_fields, sectioned, sectioned_from, space_before}
use Rattle.toml_edit_edits.specs.declared.fault.EditFault.TheVariants.{NoSuchPath}
use Rattle.toml_edit_edits.proofs.staying.Positions.{IsPlacedBefore, all-before}
use Rattle.toml_edit_edits.proofs.staying.SlotMore.{more-blocks, new-keys, old-keys, one_more, put-left, same-splice}
use Rattle.toml_edit_edits.proofs.staying.Tables.{walk-left}
use Rattle.toml_edit_edits.proofs.staying.Words.{StaysAt}

-- ---- what goes after all others

module _ {A : Type 0} (before : A → A → Bool) (last : A) where
  abbrev pub IsEarlier : A → Type 0
  IsEarlier x = (before last x ≡ false) × (before x last ≡ true)

  goes-last : (xs : List A) → AllByRecursion IsEarlier xs → insert_by before last xs ≡ xs ++ (last ∷ [])
  goes-last [] h = refl
  goes-last (x ∷ xs) h =
      if-false (before last x) (last ∷ x ∷ xs) (x ∷ insert_by before last xs) h.0.0 ∙ ap (λ (ys : List A). x ∷ ys) (goes-last xs h.1)

  goes-before : (x : A) → before x last ≡ true → (xs : List A) → insert_by before x (xs ++ (last ∷ [])) ≡ insert_by before x xs ++ (last ∷ [])
  goes-before x h [] = if-true (before x last) (x ∷ last ∷ []) (last ∷ x ∷ []) h
  goes-before x h (y ∷ xs) = by_test (before x y) (goes-before x h xs)
    where
      by_test : (b : Bool) → insert_by before x (xs ++ (last ∷ [])) ≡ insert_by before x xs ++ (last ∷ [])
          → (if b then x ∷ y ∷ (xs ++ (last ∷ [])) else y ∷ insert_by before x (xs ++ (last ∷ [])))
          ≡ (if b then x ∷ y ∷ xs else y ∷ insert_by before x xs) ++ (last ∷ [])
      by_test true e = refl
      by_test false e = ap (λ (ys : List A). y ∷ ys) e

  pub sorted-last : (xs ys : List A) → AllByRecursion IsEarlier (xs ++ ys)
      → sorted_by before (xs ++ (last ∷ ys)) ≡ sorted_by before (xs ++ ys) ++ (last ∷ [])
  sorted-last [] ys h = goes-last (sorted_by before ys) (all-sorted IsEarlier before ys h)
  sorted-last (x ∷ xs) ys h =
      ap (insert_by before x) (sorted-last xs ys h.1) ∙ goes-before x h.0.1 (sorted_by before (xs ++ ys))

before-last : (a b : ℤ) → int_lt a b ≡ true → (int_le b a ≡ false) × (int_le a b ≡ true)
before-last a b h = (grind (arith, ints), grind (arith, ints))

and-false : (b : Bool) → (b && false) ≡ false
and-false true = refl
and-false false = refl

-- ---- the blocks of new tables

module _ (mode : Mode) (x : Text) (i : ℤ) where
  abbrev pub own : Node
  own = table (section_at x i) no_slots

  abbrev last_of : Path → List Key → Key → List Key → Block
  last_of p ks k more = block_of mode (section_visit p ks k more (section_at x i))

  -- those that exist only for the last one have neither header nor lines
  record NewBlocks (p : Path) (ks : List Key) (k : Key) (more : List Key) : Type 0 where
    implied : List Block
    is : blocks mode (node_walk (held_below more own) (to_key p k.name) (ks ++ (cleared_key k ∷ [])) false)
        ≡ implied ++ (last_of p ks k more ∷ [])
    bare_ones : AllByRecursion (λ b. is_headed b ≡ false) implied
    headed : is_headed (last_of p ks k more) ≡ true
    steady : IsSteadyBlock (last_of p ks k more)
    placed : place (last_of p ks k more) ≡ i
    no_lines : (last_of p ks k more).lines ≡ []

  no-line : (l : Key) (more : List Key) (lk : List Key) → slot_lines mode l (held_below more own) lk ≡ []
  no-line l [] lk = refl
  no-line l (j ∷ more) lk = refl

  new-blocks : (p : Path) (ks : List Key) (k : Key) (more : List Key) → NewBlocks p ks k more
  new-blocks p ks k [] =
      let deep : List Key = ks ++ (cleared_key k ∷ []) in
      record {
        implied = [];
        is = refl;
        bare_ones = tt;
        headed = ap (λ b. not b && true) (not_empty-last ks (cleared_key k));
        steady = or-true (not (is_headed (last_of p ks k [])));
        placed = refl;
        no_lines = refl;
      }
  new-blocks p ks k (j ∷ more) =
      let deep : List Key = ks ++ (cleared_key k ∷ []) in
      let at : Path = to_key p k.name in
      let r = new-blocks at deep j more in
      let walk = node_walk (held_below more own) (to_key at j.name) (deep ++ (cleared_key j ∷ [])) false in
      let first : Block =
      block_of mode (visit_of at deep false (record new_table { is_implicit = true }) (slot (cleared_key j) (held_below more own) no_slots)) in
      let empty : first.lines ≡ [] = ap (λ z. z ++ []) (no-line (cleared_key j) more []) in
      record {
        implied = first ∷ r.implied;
        is = ap (λ z. first ∷ z) (blocks-append mode walk [] ∙ append-nil (blocks mode walk) ∙ r.is);
        bare_ones = (ap (λ z. not (is_empty deep) && not (true && is_empty z)) empty ∙ and-false (not (is_empty deep)), r.bare_ones);
        headed = r.headed;
        steady = r.steady;
        placed = r.placed;
        no_lines = r.no_lines;
      }

  undotted : (more : List Key) → is_dotted_inline (held_below more own) ≡ false
  undotted [] = refl
  undotted (j ∷ more) = refl

  sound : (more : List Key) → NodeIsSound (held_below more own)
  sound [] = tt
  sound (j ∷ more) = (undotted more, sound more, tt)

  well : (more : List Key) → AreSpelled more → IsWellMade (held_below more own)
  well [] h = tt
  well (j ∷ more) h = (refl, h.0, well more h.1, tt)

-- ---- a table more

module _ (mode : Mode) (t : Tree) (way : List Turn) (w : Visit) (k : Key) (more : List Key) (x : Text) (i : ℤ)
    (made : SlotsAreWellMade t.slots) (st : Steady mode t) (leads : Leads way (root_visit t) w)
    (is_new : lookup_slot k.name (slot_list w.slots) ≡ None) where
  abbrev n : Node
  n = held_below more (own mode x i)

  pub unlined : (lk : List Key) → slot_lines mode (cleared_key k) n lk ≡ []
  unlined = no-line mode x i (cleared_key k) more

  abbrev pub with_section : List (Slot Node) → List (Slot Node)
  with_section = one_more mode w (cleared_key k) n unlined is_new

  abbrev u : Tree
  u = edited way with_section t

  abbrev q : Path
  q = to_key w.path k.name

  parts : NewBlocks mode x i w.path w.keys k more
  parts = new-blocks mode x i w.path w.keys k more

  abbrev last : Block
  last = last_of mode x i w.path w.keys k more

  abbrev m : List Block
  m = parts.implied ++ (last ∷ [])

  whole : Whole mode q itself w with_section (λ lk. []) (λ lk. []) [] m (tree_blocks mode t) (tree_blocks mode u)
  whole =
      whole-tree mode q itself w with_section (λ lk. []) (λ lk. []) [] m (at_key k.name) (front-refl q)
      (same-splice mode w (cleared_key k) n unlined is_new)
      (subst (λ z. BlockSplice mode q itself [] z (blocks mode (slots_walk w.slots w.path w.keys))
      (blocks mode (slots_walk (slots_under with_section w.slots) w.path w.keys))) parts.is (more-blocks mode w (cleared_key k) n unlined is_new))
      way t made (firm-visits mode t st) leads

  kept-block : record whole.block { lines = whole.lines } ≡ whole.block
  kept-block = ap (λ z. record whole.block { lines = z }) (whole.changes.second ∙ sym whole.changes.first)

  -- ---- it is steady

  own-steady : AllByRecursion IsSteadyBlock m
  own-steady =
      all-append IsSteadyBlock parts.implied (last ∷ [])
      (all-map (λ b. is_headed b ≡ false) IsSteadyBlock parts.implied (λ b e. ap (λ z. not z || has_steady_header (bare b)) e) parts.bare_ones)
      (parts.steady, tt)

  new-sound : SlotsAreSound u.slots
  new-sound =
      along-sound way with_section (root_visit t) w made st.sound leads
      (λ _ s. sound-append (slot_list w.slots) (keyed (cleared_key k) n ∷ []) (subst SlotsAreSound (sym (slots_from-list w.slots)) s)
      (undotted mode x i more, sound mode x i more, tt))

  new-steady : Steady mode u
  new-steady =
      whole-steady mode q itself w with_section (λ lk. []) (λ lk. []) [] m (λ b s. s) (λ b s. s) way t st new-sound whole
      (λ s. subst IsSteadyBlock (sym kept-block) s) own-steady

  -- ---- what is printed

  own-header : block_printed mode last ≡ printed_table mode true (section_visit w.path w.keys k more (section_at x i))
  own-header = refl

  only-header : filter is_headed m ≡ last ∷ []
  only-header =
      filter-append is_headed parts.implied (last ∷ [])
      ∙ ap (λ z. z ++ filter is_headed (last ∷ [])) (none-headed parts.implied parts.bare_ones)
      ∙ if-true (is_headed last) (last ∷ []) [] parts.headed
    where
      none-headed : (bs : List Block) → AllByRecursion (λ b. is_headed b ≡ false) bs → filter is_headed bs ≡ []
      none-headed [] h = refl
      none-headed (b ∷ bs) h = if-false (is_headed b) (b ∷ filter is_headed bs) (filter is_headed bs) h.0 ∙ none-headed bs h.1

  -- the header is printed after those of all blocks that come before it
  behind : (fs bs : List Block) → AllByRecursion (λ b. int_lt (place b) i ≡ true) (fs ++ bs)
      → printed_blocks mode (fs ++ (m ++ bs)) ≡ printed_blocks mode (fs ++ bs) ++ block_printed mode last
  behind fs bs h =
      let split : filter is_headed (fs ++ bs) ≡ filter is_headed fs ++ filter is_headed bs = filter-append is_headed fs bs in
      ap (λ z. flat_map (block_printed mode) (sorted_by stands_first z))
      (filter-append is_headed fs (m ++ bs)
      ∙ ap (λ z. filter is_headed fs ++ z) (filter-append is_headed m bs ∙ ap (λ z. z ++ filter is_headed bs) only-header))
      ∙ ap (flat_map (block_printed mode))
      (sorted-last stands_first last (filter is_headed fs) (filter is_headed bs)
      (subst (AllByRecursion (IsEarlier stands_first last)) split
      (all-map (λ b. int_lt (place b) i ≡ true) (IsEarlier stands_first last) (filter is_headed (fs ++ bs))
      (λ b e. subst (λ z. (int_le z (place b) ≡ false) × (int_le (place b) z ≡ true)) (sym parts.placed) (before-last (place b) i e))
      (all-filter (λ b. int_lt (place b) i ≡ true) is_headed (fs ++ bs) h))))
      ∙ flat_map-append (block_printed mode) (sorted_by stands_first (filter is_headed fs ++ filter is_headed bs)) (last ∷ [])
      ∙ ap (λ z. flat_map (block_printed mode) (sorted_by stands_first z) ++ (block_printed mode last ++ [])) (sym split)
      ∙ ap (λ z. printed_blocks mode (fs ++ bs) ++ z) (append-nil (block_printed mode last))

  all-behind : (fs : List Block) (b : Block) (bs cs : List Block) → AllByRecursion (λ b. int_lt (place b) i ≡ true) (fs ++ (b ∷ (bs ++ cs)))
      → printed_all mode (fs ++ (b ∷ (bs ++ (m ++ cs)))) ≡ printed_all mode (fs ++ (b ∷ (bs ++ cs))) ++ block_printed mode last
  all-behind [] b bs cs h =
      ap (λ z. block_printed mode b ++ z) (behind bs cs h.1)
      ∙ sym (append_assoc (block_printed mode b) (printed_blocks mode (bs ++ cs)) (block_printed mode last))
  all-behind (r ∷ fs) b bs cs h =
      ap (λ z. block_printed mode r ++ printed_blocks mode z) (sym (append_assoc fs (b ∷ bs) (m ++ cs)))
      ∙ ap (λ z. block_printed mode r ++ z)
      (behind (fs ++ (b ∷ bs)) cs (subst (AllByRecursion (λ b. int_lt (place b) i ≡ true)) (sym (append_assoc fs (b ∷ bs) cs)) h.1))
      ∙ sym (append_assoc (block_printed mode r) (printed_blocks mode ((fs ++ (b ∷ bs)) ++ cs)) (block_printed mode last))
      ∙ ap (λ z. (block_printed mode r ++ printed_blocks mode z) ++ block_printed mode last) (append_assoc fs (b ∷ bs) cs)

  pub section-printed : AllByRecursion (λ b. int_lt (place b) i ≡ true) (tree_blocks mode t)
      → printed mode u ≡ printed mode t ++ block_printed mode last
  section-printed h =
      let w = whole in
      let new : tree_blocks mode u ≡ w.front ++ (w.block ∷ (w.middle ++ (m ++ w.back))) =
      sym (map-itself (tree_blocks mode u)) ∙ w.second ∙ map-itself (w.front ++ (record w.block { lines = w.lines } ∷ (w.middle ++ (m ++ w.back))))
      ∙ ap (λ b. w.front ++ (b ∷ (w.middle ++ (m ++ w.back)))) kept-block in
      printed-tree mode u new-steady ∙ ap (printed_all mode) new
      ∙ all-behind w.front w.block w.middle w.back (subst (AllByRecursion (λ b. int_lt (place b) i ≡ true)) w.first h)
      ∙ ap (λ z. printed_all mode z ++ block_printed mode last) (sym w.first)
      ∙ ap (λ z. z ++ block_printed mode last) (sym (printed-tree mode t st))

  -- ---- what stays

  abbrev apart : List Printed → List Printed
  apart = filter (λ s. not (is_at_or_below q s.path))

  last-under : is_front q last.path ≡ true
  last-under =
      (all-back (IsBlockUnder q) parts.implied (last ∷ [])
      (subst (AllByRecursion (IsBlockUnder q)) parts.is (node-under mode q n q (w.keys ++ (cleared_key k ∷ [])) false (front-refl q)))).0.0

  header-gone : apart (block_printed mode last) ≡ []
  header-gone =
      ap (λ ls. apart (block_printed mode (record last { lines = ls }))) parts.no_lines
      ∙ by_test (is_headed (record last { lines = [] }))
    where
      gone : not (is_at_or_below q last.path) ≡ false
      gone = ap not (front-is q last.path ∙ last-under)

      by_test : (b : Bool) → apart ((if b then record { block = last.path; path = last.path; statement = header_statement mode true (bare last) } ∷ [] else []) ++ []) ≡ []
      by_test true = ap (λ b. if b then record { block = last.path; path = last.path; statement = header_statement mode true (bare last) } ∷ [] else []) gone
      by_test false = refl

  pub section-apart : AllByRecursion (λ b. int_lt (place b) i ≡ true) (tree_blocks mode t) → apart (printed mode u) ≡ apart (printed mode t)
  section-apart h =
      ap apart (section-printed h)
      ∙ filter-append (λ s. not (is_at_or_below q s.path)) (printed mode t) (block_printed mode last)
      ∙ ap (λ z. apart (printed mode t) ++ z) header-gone
      ∙ append-nil (apart (printed mode t))

-- ---- the law

blocks-before : (i : ℤ) (mode : Mode) (vs : List Visit) → AllByRecursion (IsPlacedBefore i) vs
    → AllByRecursion (λ b. int_lt (place b) i ≡ true) (blocks mode vs)
blocks-before i mode [] h = tt
blocks-before i mode (v ∷ vs) h = by_test v.fields.is_dotted (blocks-before i mode vs h.1)
  where
    by_test : (b : Bool) → AllByRecursion (λ b. int_lt (place b) i ≡ true) (blocks mode vs)
        → AllByRecursion (λ b. int_lt (place b) i ≡ true) (if b then blocks mode vs else block_of mode v ∷ blocks mode vs)
    by_test true ih = ih
    by_test false ih = (h.0, ih)

was : (t u : Tree) (path : List Key) (w : Visit) (k : Key) (more : List Key) → item_at (names path) t ≡ Some (table w.fields w.slots)
    → lookup_slot k.name (slot_list w.slots) ≡ None → sectioned (path ++ (k ∷ more)) t ≡ Ok u
    → changed_at (put_in (keyed (cleared_key k) (held_below more (section t)))) (names path) t ≡ Ok u
was t u path w k more there is_new h =
    by_test (is_numbered (k ∷ more)) (ap (λ q. sectioned_from all q t) (sym (new-keys t path w k more there is_new)) ∙ h)
  where
    all : List Key
    all = path ++ (k ∷ more)

    s : Slot Node
    s = keyed (cleared_key k) (held_below more (section t))

    by_test : (b : Bool)
        → (if b then Err NoSuchPath else changed_at (put_in s) (names (take (keys_there (names all) (root_item t)) all)) t) ≡ Ok u
        → changed_at (put_in s) (names path) t ≡ Ok u
    by_test true g = absurd cc
    by_test false g = ap (λ q. changed_at (put_in s) (names q) t) (sym (old-keys t path w k more there is_new)) ∙ g

-- the slot is at the end of those of the table
pub section-left : (t u : Tree) (path : List Key) (w : Visit) (k : Key) (more : List Key) → SlotsAreWellMade t.slots
    → (named : NamesTable t (names path) w) → lookup_slot k.name (slot_list w.slots) ≡ None → sectioned (path ++ (k ∷ more)) t ≡ Ok u
    → u ≡ edited named.way (λ es. es ++ (keyed (cleared_key k) (held_below more (section t)) ∷ [])) t
section-left t u path w k more made named is_new h =
    let s : Slot Node = keyed (cleared_key k) (held_below more (section t)) in
    let at = item-along named.way (names path) (root_visit t) w named.goes named.leads in
    walk-left t u (names path) w.fields w.slots (λ es. es ++ (s ∷ [])) made (record { visit = w; named = named; fields = refl; slots = refl })
    (put-left t u (names path) w s at (was t u path w k more at is_new h))

module _ (mode : Mode) (t u : Tree) (path : List Key) (w : Visit) (k : Key) (more : List Key) (made : SlotsAreWellMade t.slots)
    (steady : is_steady_in mode t ≡ true) (room : HasNextPosition t) (named : NamesTable t (names path) w)
    (is_new : lookup_slot k.name (slot_list w.slots) ≡ None) (h : sectioned (path ++ (k ∷ more)) t ≡ Ok u) where
  abbrev x : Text
  x = space_before t

  abbrev i : ℤ
  i = next_position t

  st : Steady mode t
  st = steady-parts mode t steady

  abbrev g : List (Slot Node) → List (Slot Node)
  g = with_section mode t named.way w k more x i made st named.leads is_new

  is : u ≡ edited named.way g t
  is = section-left t u path w k more made named is_new h

  placed : AllByRecursion (λ (b : Block). int_lt (place b) i ≡ true) (tree_blocks mode t)
  placed = let v = all-before t room in (v.0, blocks-before i mode (slots_walk t.slots [] []) v.1)

  still : StaysSteady mode t (edited named.way g t)
  still = stays-steady mode named.way g t (new-steady mode t named.way w k more x i made st named.leads is_new)

  pub header-adds : AddsHeader mode t u (section_visit w.path w.keys k more (section_fields t))
  header-adds =
      subst (λ (y : Tree). AddsHeader mode t y (section_visit w.path w.keys k more (section_fields t))) (sym is)
      (section-printed mode t named.way w k more x i made st named.leads is_new placed, still)

  pub one-section-stays : AreSpelled (k ∷ more) → StaysButAt mode (to_key w.path k.name ∷ []) t u
  one-section-stays spelled =
      subst (λ (y : Tree). StaysButAt mode (to_key w.path k.name ∷ []) t y) (sym is)
      (record {
        others = section-apart mode t named.way w k more x i made st named.leads is_new placed;
        text = λ is_open. refl;
        steady = still;
        made = added_stays_made t named.way w (cleared_key k) (held_below more (section t)) made named.leads is_new
            (spelled.0, well mode x i more spelled.1);
      })

pub section-adds : (mode : Mode) → SectionAddsHeader mode
section-adds mode t u path w k more made steady room named is_new h = header-adds mode t u path w k more made steady room named is_new h

pub section-stays : (mode : Mode) (t u : Tree) (path : List Key) → SlotsAreWellMade t.slots → is_steady_in mode t ≡ true → IsNewBelow t path
    → sectioned path t ≡ Ok u → StaysAt mode t u (names path)
section-stays mode t u path made steady new h =
    subst (λ (q : List Key). StaysAt mode t u (names q)) (sym new.is)
    (subst (λ (p : Path). StaysButAt mode (p ∷ []) t u) (sym (new-place t new.above new.visit new.key new.below made new.named new.none))
    (one-section-stays mode t u new.above new.visit new.key new.below made steady new.room new.named new.none
    (ap (λ q. sectioned q t) (sym new.is) ∙ h) new.spelled))
