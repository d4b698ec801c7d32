-- A key line that is added to the slots of its own table gives the slots of all.
use Rattle.std.proofs.Common.{◌≡◌, refl, sym, ◌∙◌, ap, subst, ℕ, ◌+◌, Bool, true, false, List, [], ◌∷◌, ◌++◌, Option, Some, None}
use Rattle.std.specs.Prelude.{◌||◌, if◌then◌else◌, map, option_map}
use Rattle.std.specs.List.{list_any}
use Rattle.toml_edit_model.specs.Mode.{Mode, with_return}
use Rattle.toml_edit_model.specs.Text.{Text, is_empty}
use Rattle.toml_edit_model.specs.Syntax.{Segment, Frame, Value, Statement, key_line, header}
use Rattle.toml_edit_model.specs.Paths.{at_key, Path, to_key, Mention, Source, mention_of, line_mentions, next_start}
use Rattle.toml_edit_model.specs.Tree.{TableFields, Node, nothing, leaf, list, inline, table, tables, Slots, no_slots, is_value_node}
use Rattle.toml_edit_model.specs.TreeOf.{spanned_in, key_at, key_extent, made_by_path, header_fields, fields_of, value_start, IsLineNode}
use Rattle.toml_edit_model.specs.TreeOf.{IsNodeOf}
use Rattle.toml_edit_laws.specs.FlatTree.{with_slot}
use Rattle.toml_edit_laws.specs.InlineTree.{node_at, with_node, add_last}
use Rattle.toml_edit_laws.specs.TableTree.{extend_below, add_line}
use Rattle.toml_edit_laws.proofs.common.Tests.{or-true}
use Rattle.toml_edit_laws.proofs.mentions.GatherLaws.{first_of_key, first_of_key-is}
use Rattle.toml_edit_laws.proofs.common.OptionSteps.{map_some, guard_read}
use Rattle.toml_edit_laws.proofs.values.ValueNodes.{value_item}
use Rattle.toml_edit_laws.proofs.inline_tables.PairMentions.{own-line, lines-deeper}
use Rattle.toml_edit_laws.proofs.inline_tables.InlineBuild.{path_of, under-path}
use Rattle.toml_edit_laws.proofs.adding.TableMentions.{AreOfTable, under-none, kept-among}
use Rattle.toml_edit_laws.proofs.adding.TableSlots.{IsFound, slots-find}
use Rattle.toml_edit_laws.proofs.adding.KeySlots.{AreSlots, GoesOn, slots-through, new-slot, old-slot}
use Rattle.toml_edit_laws.proofs.mentions.Placed.{is_header}
use Rattle.toml_edit_laws.proofs.mentions.SomeAt.{under-append, own_mention}
use Rattle.toml_edit_model.specs.Roles.{Role, dotted_role, header_role, value_role, is_header_role, is_dotted_role}
use Rattle.toml_edit_model.specs.TableMentions.{under, own, roles, kept}

-- ---- the fields of a table that a dotted key goes through

-- some dotted key goes through the table itself
abbrev pub has_dotted : {S : Type 0} → List (Mention S) → Bool
has_dotted ms = list_any is_dotted_role (roles ms)

pub dotted-append : {S : Type 0} (xs ys : List (Mention S)) → has_dotted (xs ++ ys) ≡ (has_dotted xs || has_dotted ys)
dotted-append [] ys = refl
dotted-append {S} (m ∷ xs) ys = by_path (is_empty m.path) (dotted-append xs ys)
  where
    by_role : (a b c : Bool) → (a || (b || c)) ≡ ((a || b) || c)
    by_role true b c = refl
    by_role false b c = refl

    by_path : (b : Bool) → has_dotted (xs ++ ys) ≡ (has_dotted xs || has_dotted ys)
        → list_any is_dotted_role (map (λ (n : Mention S). n.role) (if b then m ∷ own (xs ++ ys) else own (xs ++ ys)))
        ≡ (list_any is_dotted_role (map (λ (n : Mention S). n.role) (if b then m ∷ own xs else own xs)) || has_dotted ys)
    by_path true h = ap (λ b. is_dotted_role m.role || b) h ∙ by_role (is_dotted_role m.role) (has_dotted xs) (has_dotted ys)
    by_path false h = h

under-dotted : (source : Source) (start : ℕ) (g : Segment) (below ms : List (Mention Source))
    → has_dotted (under (at_key g.key) (ms ++ path_of source start dotted_role g below)) ≡ true
under-dotted source start g below ms =
    ap has_dotted
    (under-append (at_key g.key) ms (path_of source start dotted_role g below)
    ∙ ap (λ us. under (at_key g.key) ms ++ us) (under-path source start dotted_role g below))
    ∙ dotted-append (under (at_key g.key) ms) (own_mention source start dotted_role g ∷ below)
    ∙ or-true (has_dotted (under (at_key g.key) ms))

module _ (mode : Mode) where
  -- the table of a header isn't implicit
  headed-explicit : (s : Source) (st : Statement) (f : TableFields) → is_header st ≡ true → f ≡ header_fields (spanned_in mode) s st
      → f.is_implicit ≡ true → ⊥
  headed-explicit s (key_line g v end) f h e i = absurd cc
  headed-explicit s (header x end) f h e i = let explicit : f.is_implicit ≡ false = ap (λ (y : TableFields). y.is_implicit) e in absurd cc

  -- An implicit table becomes dotted, and keeps the rest.
  fields-dotted : (ns others : List (Mention Source)) (j : Mention Source) (r : Role) (f : TableFields)
      → (is_header_role r ≡ true → is_header j.source.statement ≡ true) → f.is_implicit ≡ true → has_dotted others ≡ true
      → f ≡ fields_of (spanned_in mode) ns j r → record f { is_dotted = true } ≡ fields_of (spanned_in mode) others j r
  fields-dotted ns others j header_role f h i d e = absurd (headed-explicit j.source j.source.statement f (h refl) e i)
  fields-dotted ns others j r f h i d e =
      ap (λ (x : TableFields). record x { is_dotted = true }) e
      ∙ ap (λ b. made_by_path (spanned_in mode) b (key_extent (spanned_in mode) j)) (sym d)

  -- ---- the item of a key line

  line-value : (s : Source) (st : Statement) (n : Node) → IsLineNode (spanned_in mode) s st n → is_value_node n ≡ true
  line-value s (key_line f v end) n h =
      (value_item v (spanned_in mode) (s.start + value_start (spanned_in mode) f) f.after_equals (with_return mode f.trailing end) n
      h).is_value
  line-value s (header x end) n h = absurd h

  -- the item of a mention that ends a key line is that of its value
  pub line-node : (ns : List (Mention Source)) (m : Mention Source) (n : Node) → m.role ≡ value_role
      → IsLineNode (spanned_in mode) m.source m.source.statement n
      → IsNodeOf (spanned_in mode) ns m n
  line-node ns m (leaf s r d) is h = (is, h)
  line-node ns m (list f xs) is h = (is, h)
  line-node ns m (inline f ss) is h = (is, h)
  line-node ns m nothing is h = let e = line-value m.source m.source.statement nothing h in absurd cc
  line-node ns m (table f ss) is h = let e = line-value m.source m.source.statement (table f ss) h in absurd cc
  line-node ns m (tables x xs) is h = let e = line-value m.source m.source.statement (tables x xs) h in absurd cc

  -- ---- a whole path

  -- The item of this source goes down a path of segments, below mentions whose slots are these.
  abbrev IsAdded : Source → ℕ → List Segment → List (Mention Source) → Slots → Type 0
  IsAdded source start segments ms next = AreSlots mode (ms ++ line_mentions source start [] segments) next

  line-last : (source : Source) (start : ℕ) (p : Path) (g : Segment) (ms : List (Mention Source)) (n : Node) (ss next : Slots)
      → IsLineNode (spanned_in mode) source source.statement n → AreOfTable ms → AreSlots mode ms ss
      → (o : Option Node) → IsFound (spanned_in mode) ms (first_of_key g.key (kept ms)) o
      → add_last ss (key_at (spanned_in mode) (mention_of source start (to_key p g.key) value_role g)) n o ≡ Some next
      → IsAdded source start (g ∷ []) ms next
  line-last source start p g ms n ss next value are slots (Some x) found e = absurd cc
  line-last source start p g ms n ss next value are slots None found e = by_first (first_of_key g.key (kept ms)) refl found
    where
      m : Mention Source
      m = mention_of source start (to_key [] g.key) value_role g

      by_first : (o : Option (Mention Source)) → first_of_key g.key (kept ms) ≡ o → IsFound (spanned_in mode) ms o None
          → IsAdded source start (g ∷ []) ms next
      by_first (Some j) new found = absurd found
      by_first None new found =
          let last : with_slot ss (key_at (spanned_in mode) m) n ≡ next = cc in
          subst (IsAdded source start (g ∷ []) ms) last
          (new-slot mode source start value_role g [] ms n ss refl are refl new slots
          (line-node (under (at_key g.key) (ms ++ path_of source start value_role g [])) m n refl value))

  line-below : (source : Source) (start : ℕ) (p : Path) (g : Segment) (below ms : List (Mention Source)) (add : Slots
      → Option Slots) (ss next : Slots)
      → AreOfTable ms → AreSlots mode ms ss → own below ≡ [] → GoesOn mode add below
      → (o : Option Node) → IsFound (spanned_in mode) ms (first_of_key g.key (kept ms)) o
      → extend_below mode (mention_of source start (to_key p g.key) dotted_role g) add ss o ≡ Some next
      → AreSlots mode (ms ++ path_of source start dotted_role g below) next
  line-below source start p g below ms add ss next are slots none on None found e = by_first (first_of_key g.key (kept ms)) refl found
    where
      m : Mention Source
      m = mention_of source start (to_key [] g.key) dotted_role g

      all : List (Mention Source)
      all = ms ++ path_of source start dotted_role g below

      f : TableFields
      f = made_by_path (spanned_in mode) true (key_extent (spanned_in mode) m)

      by_first : (o : Option (Mention Source)) → first_of_key g.key (kept ms) ≡ o → IsFound (spanned_in mode) ms o None
          → AreSlots mode all next
      by_first (Some j) new found = absurd found
      by_first None new found =
          let (inner, added, made) =
          map_some (add no_slots) (λ (inner : Slots). with_slot ss (key_at (spanned_in mode) m) (table f inner)) next e in
          let empty : AreSlots mode (under (at_key g.key) ms) no_slots =
          subst (λ us. AreSlots mode us no_slots) (sym (under-none g.key ms are new)) tt in
          subst (AreSlots mode all) made
          (new-slot mode source start dotted_role g below ms (table f inner) ss refl are none new slots (
            tt,
            ap (λ b. made_by_path (spanned_in mode) b (key_extent (spanned_in mode) m)) (sym (under-dotted source start g below ms)),
            slots-through mode source start dotted_role g below ms add no_slots inner refl are empty on added,
          ))
  line-below source start p g below ms add ss next are slots none on (Some (table f inner)) found e =
      by_first (first_of_key g.key (kept ms)) refl found
    where
      all : List (Mention Source)
      all = ms ++ path_of source start dotted_role g below

      by_first : (o : Option (Mention Source)) → first_of_key g.key (kept ms) ≡ o → IsFound (spanned_in mode) ms o (Some (table f inner))
          → AreSlots mode all next
      by_first None old found = absurd found
      by_first (Some j) old found =
          let change = λ (changed : Slots). with_node g.key (table (record f { is_dotted = true }) changed) ss in
          let (implicit, f_changed) = guard_read f.is_implicit (option_map change (add inner)) next e in
          let (changed, added, made) = map_some (add inner) change next f_changed in
          let key : g.key ≡ j.segment.key = first_of_key-is g.key (kept ms) j old in
          let dotted : has_dotted (under (at_key j.segment.key) all) ≡ true =
          subst (λ k. has_dotted (under (at_key k) all) ≡ true) key (under-dotted source start g below ms) in
          subst (AreSlots mode all) made
          (old-slot mode source start dotted_role g below ms j (table (record f { is_dotted = true }) changed) ss refl are none old slots (
            found.0,
            fields-dotted (under (at_key j.segment.key) ms) (under (at_key j.segment.key) all) j j.role f
                (are.headers j (kept-among g.key ms j old)) implicit dotted found.1,
            subst (λ k. AreSlots mode (under (at_key k) all) changed) key
                (slots-through mode source start dotted_role g below ms add inner changed refl are
                (subst (λ k. AreSlots mode (under (at_key k) ms) inner) (sym key) found.2) on added),
          ))
  line-below source start p g below ms add ss next are slots none on (Some nothing) found e = absurd cc
  line-below source start p g below ms add ss next are slots none on (Some (leaf s r d)) found e = absurd cc
  line-below source start p g below ms add ss next are slots none on (Some (list f xs)) found e = absurd cc
  line-below source start p g below ms add ss next are slots none on (Some (inline f us)) found e = absurd cc
  line-below source start p g below ms add ss next are slots none on (Some (tables x xs)) found e = absurd cc

  pub line-on : (m : Mention Source) (source : Source) (start : ℕ) (p : Path) (h : Segment) (rest : List Segment) (n : Node) (ss : Slots)
      → add_line mode (m ∷ line_mentions source start p (h ∷ rest)) n ss
      ≡ extend_below mode m (add_line mode (line_mentions source start p (h ∷ rest)) n) ss (node_at m.segment.key ss)
  line-on m source start p h [] n ss = refl
  line-on m source start p h (g ∷ rest) n ss = refl

  line-path : (source : Source) (start : ℕ) (p : Path) (segments : List Segment) (ms : List (Mention Source)) (n : Node) (ss next : Slots)
      → IsLineNode (spanned_in mode) source source.statement n
      → AreOfTable ms → AreSlots mode ms ss → add_line mode (line_mentions source start p segments) n ss ≡ Some next
      → IsAdded source start segments ms next
  line-path source start p [] ms n ss next value are slots e = absurd cc
  line-path source start p (g ∷ []) ms n ss next value are slots e =
      line-last source start p g ms n ss next value are slots (node_at g.key ss) (slots-find (spanned_in mode) ms (kept ms) g.key ss slots)
      e
  line-path source start p (g ∷ h ∷ rest) ms n ss next value are slots e =
      let below = line_mentions source (next_start start g) [] (h ∷ rest) in
      let path = line_mentions source start [] (g ∷ h ∷ rest) in
      let paths : path ≡ path_of source start dotted_role g below =
      ap (λ us. mention_of source start (to_key [] g.key) dotted_role g
      ∷ us) (lines-deeper source (next_start start g) (at_key g.key) [] (h ∷ rest)) in
      subst (λ us. AreSlots mode (ms ++ us) next) (sym paths)
      (line-below source start p g below ms (add_line mode (line_mentions source (next_start start g) (to_key p g.key) (h ∷ rest)) n) ss
      next are slots
      (own-line source (next_start start g) (h ∷ rest))
      (λ xs us ns. line-path source (next_start start g) (to_key p g.key) (h ∷ rest) xs n us ns value)
      (node_at g.key ss) (slots-find (spanned_in mode) ms (kept ms) g.key ss slots)
      (sym (line-on (mention_of source start (to_key p g.key) dotted_role g) source (next_start start g) (to_key p g.key) h rest n ss) ∙ e))

  -- ---- a key line

  -- A key line that is added to the slots of its own table gives the slots of all.
  pub line_added : (source : Source) (f : Frame) (v : Value) (end : Text) (start : ℕ) (ms : List (Mention Source)) (n : Node)
      (ss next : Slots)
      → source.statement ≡ key_line f v end → IsLineNode (spanned_in mode) source (key_line f v end) n
      → AreOfTable ms → AreSlots mode ms ss → add_line mode (line_mentions source start [] f.path) n ss ≡ Some next
      → AreSlots mode (ms ++ line_mentions source start [] f.path) next
  line_added source f v end start ms n ss next is value =
      line-path source start [] f.path ms n ss next (subst (λ st. IsLineNode (spanned_in mode) source st n) (sym is) value)
