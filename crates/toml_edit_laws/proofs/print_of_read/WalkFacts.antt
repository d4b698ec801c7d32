-- The tables that the walk of a read tree enters: they have a header, with its texts, or were made by a path and have no lines unless
-- dotted.
use Rattle.std.proofs.Common.{◌≡◌, refl, sym, ◌∙◌, ap, subst, ℕ, suc, pos, Bool, true, false, List, [], ◌∷◌, ◌++◌, Option, Some, None, inl}
use Rattle.std.proofs.Common.{inr}
use Rattle.std.specs.Prelude.{not, map, filter}
use Rattle.std.specs.List.{AllByRecursion}
use Rattle.toml_edit_model.specs.Mode.{Mode}
use Rattle.toml_edit_model.specs.Text.{Text, one}
use Rattle.toml_edit_model.specs.Syntax.{Segment, Statement, key_line, header, IsSpacedSegment}
use Rattle.toml_edit_model.specs.Paths.{at_key, at_element, Path, to_key, to_element, Mention, Source, Placed}
use Rattle.toml_edit_model.specs.Normal.{is_line}
use Rattle.toml_edit_model.specs.Tree.{owned, Key, TableFields, Node, nothing, leaf, list, inline, table, tables, Items, no_items, item}
use Rattle.toml_edit_model.specs.Tree.{Slots, no_slots, slot}
use Rattle.toml_edit_model.specs.TreeOf.{owned_in, header_fields, fields_of, made_by_path, IsNodeOf, AreElementsOf, AreSlotsOf}
use Rattle.toml_edit_model.specs.Print.{Line, lines_of, table_lines}
use Rattle.toml_edit_model.specs.HeaderOrder.{Visit, visit_of, node_walk, items_walk, slots_walk, is_root}
use Rattle.toml_edit_laws.proofs.common.Tests.{append-nil}
use Rattle.toml_edit_laws.proofs.common.Members.{Among}
use Rattle.toml_edit_laws.proofs.mentions.GatheredLines.{AllFilled, AllPart}
use Rattle.toml_edit_laws.proofs.mentions.MentionGroups.{lower, flat_lines}
use Rattle.toml_edit_laws.proofs.mentions.KeptPaths.{kept_below, kept_in, key_segment}
use Rattle.toml_edit_laws.proofs.mentions.RankLaws.{RanksFollow}
use Rattle.toml_edit_laws.proofs.clashes.ClashMentions.{AreOfStatements}
use Rattle.toml_edit_laws.proofs.inline_tables.InlineLines.{AreLines}
use Rattle.toml_edit_laws.proofs.clashes.ClashRoles.{standing}
use Rattle.toml_edit_laws.proofs.print_of_read.BlockLines.{IsSlot, PrintsLine, IsWay, IsLevel, block-lines}
use Rattle.toml_edit_laws.proofs.print_of_read.Blocks.{HaveLines, IsDown, no-way}
use Rattle.toml_edit_laws.proofs.print_of_read.UnderPaths.{path-lifted, path-kept, path-spaced, path-follow}
use Rattle.toml_edit_laws.proofs.print_of_read.NoVisits.{array-is}
use Rattle.toml_edit_laws.proofs.mentions.RoleTests.{is_bracket_role, array-bracket}
use Rattle.toml_edit_laws.proofs.mentions.SomeAt.{some_at-under}
use Rattle.toml_edit_laws.proofs.common.Each.{all-append}
use Rattle.toml_edit_laws.proofs.common.Lists.{not_empty-last}
use Rattle.toml_edit_laws.proofs.print_of_read.Seats.{IsSeat, seat-down, seat-slots}
use Rattle.toml_edit_laws.specs.KeptKeys.{under_path}
use Rattle.toml_edit_model.specs.Roles.{Role, dotted_role, implied_role, header_role, array_role, value_role, continued_role}
use Rattle.toml_edit_model.specs.Roles.{is_header_role, is_dotted_role}
use Rattle.toml_edit_model.specs.TableMentions.{under, array_headers, some_at, kept}

pub path-some : {S : Type 0} (test : Role → Bool) (p q : Path) (ms : List (Mention S)) → some_at test q (under_path p ms)
    ≡ some_at test (p ++ q) ms
path-some test [] q ms = refl
path-some test (s ∷ p) q ms = path-some test p q (under s ms) ∙ some_at-under test s (p ++ q) ms

no-filter : {A : Type 0} (xs : List A) → filter (λ x. false) xs ≡ []
no-filter [] = refl
no-filter (x ∷ xs) = no-filter xs

no-lines : {X : Type 0} (Is : Line → X → Type 0) (ls : List Line) → AreLines Is ls [] → ls ≡ []
no-lines Is [] h = refl
no-lines Is (l ∷ ls) h = absurd h

module _ (mode : Mode) where
  -- ---- the lines of a seat

  pub seat-level : {X : Type 0} (all : List (Mention Source)) (mine : Source → Bool) (Way : Path → Type 0) (source : X
      → Source) (rank_of : Path → ℕ)
      (full : X → List Segment) (Prints : Line → X → Type 0) (p : Path) (path_of : X → List Segment) (start : X
      → ℕ) (ks : List Key) (xs : List X) (ms : List (Mention Source))
      → IsSeat all p ms → RanksFollow rank_of [] all → Way p → AllFilled path_of xs → AllPart path_of xs
      → lower (filter (λ m. mine m.source) ms) ≡ flat_lines source start path_of xs
      → AllByRecursion (λ x. full x ≡ map (key_segment mode) ks ++ kept_below (kept_in all) p (path_of x)) xs
      → AllByRecursion (PrintsLine mode source full Prints) xs
      → IsLevel mode all mine Way source rank_of full Prints p path_of start ks xs ms
  seat-level all mine Way source rank_of full Prints p path_of start ks xs ms seat follow way filled part mentioned spelled printed =
      record {
        filled = filled;
        part = part;
        mentioned = mentioned;
        spelled = spelled;
        printed = printed;
        follow = subst (RanksFollow rank_of p) (sym seat.is) (path-follow rank_of [] p all follow);
        are = seat.are;
        one_header = seat.one_header;
        spaced = subst (λ ns. AllByRecursion (λ (m : Mention Source). IsSpacedSegment m.segment) ns) (sym seat.is)
            (path-spaced p all seat.spaced);
        kept_same = λ q. ap (λ ns. kept_in ns q) seat.is ∙ path-kept p q all;
        lifted = λ m a. path-lifted p all m (subst (Among m) seat.is a);
        way = way;
      }

  -- ---- tables made by a path

  -- A table that is neither headed nor dotted has no lines.
  implied-lines : (all : List (Mention Source)) (rank_of : Path
      → ℕ) (q : Path) (ms : List (Mention Source)) (m : Mention Source) (f : TableFields) (us : Slots)
      → IsSeat all q ms → RanksFollow rank_of [] all → AreOfStatements all → HaveLines all → IsSlot ms m
      → IsNodeOf (owned_in mode) (under (at_key m.segment.key) ms) m (table f us) → f.is_implicit ≡ true → f.is_dotted ≡ false
      → table_lines mode us [] ≡ []
  implied-lines all rank_of q ms m f us seat follow are lines slot_is is implicit plain =
      let c : Path = to_key q m.segment.key in
      let ns : List (Mention Source) = under (at_key m.segment.key) ms in
      let roles = (standing (owned_in mode) m.segment.key ms m (table f us) seat.are slot_is.3 is).roles in
      let whole : (test : Role → Bool) → some_at test c all ≡ some_at test (one (at_key m.segment.key)) ms =
      λ test. sym (path-some test q (one (at_key m.segment.key)) all) ∙ ap (some_at test (one (at_key m.segment.key))) (sym seat.is) in
      let ways : IsWay all (λ s. false) (IsDown all c) =
      no-way all c q m.segment.key are lines refl (whole is_header_role ∙ roles.headed ∙ ap not implicit) (whole is_dotted_role
      ∙ roles.dotted ∙ plain) in
      let nothing_of : Line → Placed → Type 0 = λ l x. Unit {0} in
      let level : IsLevel mode all (λ s. false) (IsDown all c) (λ (x : Placed). x.source) rank_of (λ x. []) nothing_of c (λ x. []) (λ x. 0)
      [] [] ns =
      seat-level all (λ s. false) (IsDown all c) (λ (x : Placed). x.source) rank_of (λ x. []) nothing_of c (λ x. []) (λ x. 0) [] [] ns
      (seat-down all q (at_key m.segment.key) ms seat) follow ([], sym (append-nil c), tt) tt tt (ap lower (no-filter ns)) tt tt in
      no-lines nothing_of (table_lines mode us [])
      (block-lines mode all (λ s. false) (IsDown all c) (λ (x : Placed). x.source) rank_of (λ x. []) nothing_of ways us c (λ x. []) (λ x. 0)
      [] [] ns level is.2)

  -- ---- each table of the walk

  pub data IsOfRead (v : Visit) : Type 0 where
    headed : (k : ℕ) (t : Text) → v.fields.position ≡ Some (pos k) → v.fields.is_dotted ≡ false → v.fields.is_implicit ≡ false
        → v.fields.decor.prefix ≡ Some (owned t)
        → IsOfRead v
    by_path : v.fields.position ≡ None → v.fields.is_implicit ≡ true → v.is_element ≡ false
        → (v.fields.is_dotted ≡ false → lines_of mode v ≡ []) → IsOfRead v

  abbrev pub IsEntered : Visit → Type 0
  IsEntered v = (is_root v ≡ false) × IsOfRead v

  header-read : (p : Path) (ks : List Key) (is_element : Bool) (f : TableFields) (ss : Slots) (s : Source) (t : Statement) → is_line t
      ≡ false → f ≡ header_fields (owned_in mode) s t
      → IsOfRead (visit_of p ks is_element f ss)
  header-read p ks is_element f ss s (header h end) l e =
      headed s.headers h.leading (ap (λ (x : TableFields). x.position) e) (ap (λ (x : TableFields). x.is_dotted) e)
      (ap (λ (x : TableFields). x.is_implicit) e)
      (ap (λ (x : TableFields). x.decor.prefix) e)
  header-read p ks is_element f ss s (key_line g v end) l e = absurd cc

  made-read : (p : Path) (ks : List Key) (f : TableFields) (ss : Slots) (b : Bool) (e : Option (ℕ × ℕ)) → f
      ≡ made_by_path (owned_in mode) b e
      → (f.is_implicit ≡ true → f.is_dotted ≡ false → table_lines mode ss [] ≡ []) → IsOfRead (visit_of p ks false f ss)
  made-read p ks f ss b e h lines =
      by_path (ap (λ (x : TableFields). x.position) h) (ap (λ (x : TableFields). x.is_implicit) h) refl
      (lines (ap (λ (x : TableFields). x.is_implicit) h))

  module _ (all : List (Mention Source)) (rank_of : Path
      → ℕ) (follow : RanksFollow rank_of [] all) (are : AreOfStatements all) (lines : HaveLines all)
      (heads : (m : Mention Source) → Among m all → is_bracket_role m.role ≡ true → is_line m.source.statement ≡ false) where
    -- what opens a block here is a header
    head-here : (q : Path) (ms : List (Mention Source)) (m : Mention Source) → IsSeat all q ms → Among m ms → is_bracket_role m.role ≡ true
        → is_line m.source.statement ≡ false
    head-here q ms m seat a e = heads (record m { path = q ++ m.path }) (path-lifted q all m (subst (Among m) seat.is a)) e

    table-read : (q : Path) (ms : List (Mention Source)) (m : Mention Source) (f : TableFields) (us : Slots) (p : Path) (ks : List Key)
        (r : Role) → IsSeat all q ms → IsSlot ms m
        → IsNodeOf (owned_in mode) (under (at_key m.segment.key) ms) m (table f us) → m.role ≡ r → f
        ≡ fields_of (owned_in mode) (under (at_key m.segment.key) ms) m r
        → IsOfRead (visit_of p ks false f us)
    table-read q ms m f us p ks header_role seat slot_is is e g =
        header-read p ks false f us m.source m.source.statement (head-here q ms m seat slot_is.0 (ap is_bracket_role e)) g
    table-read q ms m f us p ks dotted_role seat slot_is is e g =
        made-read p ks f us _ _ g (implied-lines all rank_of q ms m f us seat follow are lines slot_is is)
    table-read q ms m f us p ks implied_role seat slot_is is e g =
        made-read p ks f us _ _ g (implied-lines all rank_of q ms m f us seat follow are lines slot_is is)
    table-read q ms m f us p ks continued_role seat slot_is is e g =
        made-read p ks f us _ _ g (implied-lines all rank_of q ms m f us seat follow are lines slot_is is)
    table-read q ms m f us p ks array_role seat slot_is is e g =
        made-read p ks f us _ _ g (implied-lines all rank_of q ms m f us seat follow are lines slot_is is)
    table-read q ms m f us p ks value_role seat slot_is is e g =
        made-read p ks f us _ _ g (implied-lines all rank_of q ms m f us seat follow are lines slot_is is)

    mutual
      pub walk-read : (q : Path) (ms ls : List (Mention Source)) (ss : Slots) (ks : List Key) → IsSeat all q ms
          → AllByRecursion (IsSlot ms) ls → AreSlotsOf (owned_in mode) ms ls ss
          → AllByRecursion IsEntered (slots_walk ss q ks)
      walk-read q ms [] no_slots ks seat slots h = tt
      walk-read q ms [] (slot k node ss) ks seat slots h = absurd h
      walk-read q ms (m ∷ ls) no_slots ks seat slots h = absurd h
      walk-read q ms (m ∷ ls) (slot k node ss) ks seat slots h =
          all-append IsEntered (node_walk node (to_key q k.name) (ks ++ one k) false) (slots_walk ss q ks)
          (subst (λ t. AllByRecursion IsEntered (node_walk node (to_key q t) (ks ++ one k) false)) (sym (ap (λ (j : Key). j.name) h.0))
          (node-read q ms m node ks k seat slots.0 h.1))
          (walk-read q ms ls ss ks seat slots.1 h.2)

      node-read : (q : Path) (ms : List (Mention Source)) (m : Mention Source) (node : Node) (ks : List Key) (k : Key) → IsSeat all q ms
          → IsSlot ms m
          → IsNodeOf (owned_in mode) (under (at_key m.segment.key) ms) m node
          → AllByRecursion IsEntered (node_walk node (to_key q m.segment.key) (ks ++ one k) false)
      node-read q ms m nothing ks k seat slot_is h = absurd h
      node-read q ms m (leaf s r d) ks k seat slot_is h = tt
      node-read q ms m (list f xs) ks k seat slot_is h = tt
      node-read q ms m (inline f ss) ks k seat slot_is h = tt
      node-read q ms m (table f ss) ks k seat slot_is h =
          let below = seat-down all q (at_key m.segment.key) ms seat in
          let ns : List (Mention Source) = under (at_key m.segment.key) ms in (
            (not_empty-last ks k, table-read q ms m f ss (to_key q m.segment.key) (ks ++ one k) m.role seat slot_is h refl h.1),
            walk-read (to_key q m.segment.key) ns (kept ns) ss (ks ++ one k) below (seat-slots all (to_key q m.segment.key) ns below) h.2,
          )
      node-read q ms m (tables x xs) ks k seat slot_is h =
          let ns : List (Mention Source) = under (at_key m.segment.key) ms in
          items-read (to_key q m.segment.key) ns 0 (array_headers ns) xs ks k (seat-down all q (at_key m.segment.key) ms seat) (λ a b. b)
          h.2

      items-read : (q : Path) (ns : List (Mention Source)) (i : ℕ) (hs : List (Mention Source)) (xs : Items) (ks : List Key) (k : Key)
          → IsSeat all q ns
          → ((a : Mention Source) → Among a hs → Among a (array_headers ns)) → AreElementsOf (owned_in mode) ns i hs xs
          → AllByRecursion IsEntered (items_walk xs q (ks ++ one k) i)
      items-read q ns i [] no_items ks k seat own h = tt
      items-read q ns i [] (item x xs) ks k seat own h = absurd h
      items-read q ns i (a ∷ hs) no_items ks k seat own h = absurd h
      items-read q ns i (a ∷ hs) (item (table f ss) xs) ks k seat own h =
          let below = seat-down all q (at_element i) ns seat in
          let es : List (Mention Source) = under (at_element i) ns in
          let is = array-is a ns (own a (inl refl)) in
          all-append IsEntered (visit_of (to_element q i) (ks ++ one k) true f ss
          ∷ slots_walk ss (to_element q i) (ks ++ one k)) (items_walk xs q (ks ++ one k) (suc i)) (
            (
              not_empty-last ks k,
              header-read (to_element q i) (ks
                  ++ one k) true f ss a.source a.source.statement (head-here q ns a seat is.0 (array-bracket a.role is.2)) h.0,
            ),
            walk-read (to_element q i) es (kept es) ss (ks ++ one k) below (seat-slots all (to_element q i) es below) h.1,
          )
          (items-read q ns (suc i) hs xs ks k seat (λ b c. own b (inr c)) h.2)
      items-read q ns i (a ∷ hs) (item nothing xs) ks k seat own h = absurd h
      items-read q ns i (a ∷ hs) (item (leaf s r d) xs) ks k seat own h = absurd h
      items-read q ns i (a ∷ hs) (item (list f us) xs) ks k seat own h = absurd h
      items-read q ns i (a ∷ hs) (item (inline f us) xs) ks k seat own h = absurd h
      items-read q ns i (a ∷ hs) (item (tables e us) xs) ks k seat own h = absurd h
