-- Where the mentions below a path stand among all, and what a visit of a header is there.
use Rattle.toml_edit_model.specs.Mode.{Mode}
use Rattle.toml_edit_laws.proofs.mentions.KeptOrder.{HaveOneHeader, under-header}
use Rattle.toml_edit_model.specs.Paths.{Path, Mention, Source, Step, to_key, at_key, to_element}
use Rattle.toml_edit_model.specs.Syntax.{IsSpacedSegment}
use Rattle.std.specs.List.{AllByRecursion}
use Rattle.std.proofs.Common.{List, ◌≡◌, sym, ap, ◌∙◌, ◌++◌, refl, Some, subst, true, Bool, ℕ, false, ◌∷◌, []}
use Rattle.toml_edit_laws.proofs.clashes.ClashMentions.{AreOfStatements, statements-under}
use Rattle.toml_edit_laws.proofs.print_of_read.UnderPaths.{path-step, path-spaced, path-kept, path-source, path-lifted}
use Rattle.toml_edit_model.specs.TreeOf.{owned_in, statement_leaf, key_at, header_fields, AreSlotsOf, IsNodeOf}
use Rattle.toml_edit_model.specs.Text.{one, Text, same_text}
use Rattle.toml_edit_laws.proofs.print_of_read.BlockLines.{IsSlot, kept-slots}
use Rattle.toml_edit_laws.proofs.mentions.KeptPaths.{kept_in, key-shown, key_segment, last-key}
use Rattle.toml_edit_laws.proofs.common.Members.{all-among, Among}
use Rattle.toml_edit_model.specs.Tree.{Key, unset, Slots, Node}
use Rattle.std.specs.Prelude.{option_map, if◌then◌else◌, filter, ◌==◌}
use Rattle.toml_edit_laws.proofs.mentions.KeptOfPaths.{kept_source}
use Rattle.toml_edit_model.specs.Print.{last_leaf}
use Rattle.toml_edit_laws.proofs.mentions.RoleTests.{is_bracket_role}
use Rattle.toml_edit_laws.proofs.print_of_read.KeysAlong.{AreAlong}
use Rattle.toml_edit_model.specs.HeaderOrder.{Visit, node_walk, slots_walk}
use Rattle.toml_edit_laws.proofs.mentions.KeptMentions.{moved}
use Rattle.toml_edit_laws.proofs.adding.TableMentions.{kept-some, one_slot}
use Rattle.toml_edit_laws.proofs.print_of_read.ChunkFacts.{is_heading}
use Rattle.toml_edit_laws.proofs.print_of_read.LevelFacts.{among-found}
use Rattle.toml_edit_laws.proofs.print_of_read.NoVisits.{numbered, node-none}
use Rattle.toml_edit_laws.proofs.print_of_read.HeaderVisits.{heading-under, slots-one, none-filtered, under-there, one-among, none-but}
use Rattle.toml_edit_laws.proofs.mentions.SomeAt.{among-test}
use Rattle.toml_edit_laws.proofs.common.Tests.{same_text-refl, true-false, and_right}
use Rattle.toml_edit_laws.specs.KeptKeys.{under_path}
use Rattle.toml_edit_model.specs.Roles.{Role, dotted_role, continued_role, header_role, array_role, value_role, implied_role, is_array_role}
use Rattle.toml_edit_model.specs.Roles.{ends_path, any_role}
use Rattle.toml_edit_model.specs.TableMentions.{under, kept, some_at}

-- the mentions below a path of a document
pub record IsSeat (all : List (Mention Source)) (q : Path) (ms : List (Mention Source)) : Type 0 where
  pub is : ms ≡ under_path q all
  pub are : AreOfStatements ms
  pub one_header : HaveOneHeader ms
  pub spaced : AllByRecursion (λ m. IsSpacedSegment m.segment) all

pub seat-down : (all : List (Mention Source)) (q : Path) (s : Step) (ms : List (Mention Source)) → IsSeat all q ms
    → IsSeat all (q ++ one s) (under s ms)
seat-down all q s ms h =
    record {
      is = ap (under s) h.is ∙ sym (path-step q s all);
      are = statements-under s ms h.are;
      one_header =
          under-header s ms h.one_header;
      spaced = h.spaced;
    }

pub seat-first : (all : List (Mention Source)) → AreOfStatements all → HaveOneHeader all
    → AllByRecursion (λ m. IsSpacedSegment m.segment) all → IsSeat all [] all
seat-first all are one_header spaced = record { is = refl; are = are; one_header = one_header; spaced = spaced }

pub seat-slots : (all : List (Mention Source)) (q : Path) (ms : List (Mention Source)) → IsSeat all q ms
    → AllByRecursion (IsSlot ms) (kept ms)
seat-slots all q ms h = kept-slots ms h.are h.one_header

-- and the statement that it is from
pub seat-source : (all : List (Mention Source)) (q : Path) (ms : List (Mention Source)) (m : Mention Source) → IsSeat all q ms → IsSlot ms m
    → kept_source all (to_key q m.segment.key) ≡ Some m.source
seat-source all q ms m h is =
    sym (path-source q (one (at_key m.segment.key)) all)
    ∙ ap (λ ns. kept_source ns (one (at_key m.segment.key))) (sym h.is)
    ∙ ap (kept_source ms) (sym is.1)
    ∙ ap (option_map (λ (x : Mention Source). x.source)) is.2

-- the path of the header's key, above the element that it opens
abbrev pub IsKeyPath : Bool → Path → Path → Type 0
IsKeyPath true p b = (i : ℕ) × (b ≡ to_element p i)
IsKeyPath false p b = p ≡ b

module _ (mode : Mode) where
  -- the kept key of a slot
  pub seat-key : (all : List (Mention Source)) (q : Path) (ms : List (Mention Source)) (m : Mention Source) (key : Key) → IsSeat all q ms
      → IsSlot ms m → key ≡ key_at (owned_in mode) m
      → kept_in all (to_key q m.segment.key) ≡ Some (key_segment mode key)
  seat-key all q ms m key h is key_is =
      let spaced = subst (λ ns. AllByRecursion (λ (x : Mention Source). IsSpacedSegment x.segment) ns) (sym h.is)
      (path-spaced q all h.spaced) in
      let shown : key_segment mode key ≡ m.segment =
      ap (key_segment mode) key_is ∙ key-shown mode (statement_leaf (owned_in mode) m.source m.source.statement) m
      (all-among (λ (x : Mention Source). IsSpacedSegment x.segment) m ms spaced is.0) in
      sym (path-kept q (one (at_key m.segment.key)) all)
      ∙ ap (λ ns. kept_in ns (one (at_key m.segment.key))) (sym h.is)
      ∙ ap (kept_in ms) (sym is.1)
      ∙ ap (option_map (λ (x : Mention Source). x.segment)) is.2
      ∙ ap Some (sym shown)

  -- the decor of the last key is that of the header that the path's key is kept from
  pub record IsLeafOf (all : List (Mention Source)) (p : Path) (keys : List Key) : Type 0 where
    pub source : Source
    pub kept_is : kept_source all p ≡ Some source
    pub is : last_leaf keys ≡ statement_leaf (owned_in mode) source source.statement
    pub mention : Mention Source
    pub among : Among mention all
    pub opens : is_bracket_role mention.role ≡ true
    pub source_is : mention.source ≡ source

  pub record IsVisit (all : List (Mention Source)) (b : Path) (role : Role) (source : Source) (v : Visit) : Type 0 where
    pub path : v.path ≡ b
    pub element : v.is_element ≡ is_array_role role
    pub fields : v.fields ≡ header_fields (owned_in mode) source source.statement
    pub slots : AreSlotsOf (owned_in mode) (under_path b all) (kept (under_path b all)) v.slots
    pub along : AreAlong mode all [] b v.keys
    pub key_path : Path
    pub key_path_is : IsKeyPath (is_array_role role) key_path b
    pub leaf : IsLeafOf all key_path v.keys

  pub seat-leaf : (all : List (Mention Source)) (q : Path) (ms : List (Mention Source)) (m : Mention Source) (ks : List Key) (key : Key)
      → IsSeat all q ms → IsSlot ms m
      → key ≡ key_at (owned_in mode) m → is_bracket_role m.role ≡ true → IsLeafOf all (to_key q m.segment.key) (ks ++ one key)
  seat-leaf all q ms m ks key h is key_is opens =
      record {
        source = m.source;
        kept_is = seat-source all q ms m h is;
        is =
            last-key ks key ∙ ap (λ (j : Key). j.leaf) key_is
            ∙ ap (λ b. if b then statement_leaf (owned_in mode) m.source m.source.statement else unset) (opening-ends m.role opens);
        mention = moved m (q ++ m.path);
        among = path-lifted q all m (subst (Among m) h.is is.0);
        opens = opens;
        source_is = refl;
      }
    where
      opening-ends : (r : Role) → is_bracket_role r ≡ true → ends_path r ≡ true
      opening-ends header_role e = refl
      opening-ends array_role e = refl
      opening-ends dotted_role e = absurd cc
      opening-ends implied_role e = absurd cc
      opening-ends value_role e = absurd cc
      opening-ends continued_role e = absurd cc

  -- the header is in the slot of the first key of its path
  pub in-slot : (all : List (Mention Source)) (k : Text) (r : Path) (n : ℕ) (h : Mention Source) (q : Path) (ks : List Key)
      (ms : List (Mention Source)) (ss : Slots) (P : Visit → Type 0)
      → IsSeat all q ms → filter (is_heading n) ms ≡ one h → h.path ≡ at_key k ∷ r → AreSlotsOf (owned_in mode) ms (kept ms) ss
      → ((m : Mention Source) (key : Key) (node : Node) → IsSlot ms m → k ≡ m.segment.key → key ≡ key_at (owned_in mode) m
      → IsNodeOf (owned_in mode) (under (at_key m.segment.key) ms) m node
      → (v : Visit) × (filter (numbered n) (node_walk node (to_key q m.segment.key) (ks ++ one key) false) ≡ one v) × P v)
      → (v : Visit) × (filter (numbered n) (slots_walk ss q ks) ≡ one v) × P v
  in-slot all k r n h q ks ms ss P seat only path slots here =
      slots-one mode n k P ms (kept ms) ss q ks slots
      (among-found k (kept ms) ∙ kept-some k ms seat.are.named ∙ mentioned (some_at any_role (one (at_key k)) ms) refl)
      (one_slot ms seat.are.named seat.one_header)
      (λ m key node a apart is.
      let slot_is = all-among (IsSlot ms) m (kept ms) (seat-slots all q ms seat) a in
      node-none mode n (under (at_key m.segment.key) ms) m node (to_key q m.segment.key) (ks ++ one key)
      (none-filtered n (under (at_key m.segment.key) ms)
      (heading-under n (at_key m.segment.key) ms ∙ ap (under (at_key m.segment.key)) only
      ∙ under-there (at_key m.segment.key) (at_key k) r h path apart))
      (none-but n h ms only m slot_is.0 (λ e.
      let ends : at_key m.segment.key ∷ [] ≡ at_key k ∷ r = sym slot_is.1 ∙ e ∙ path in
      let first : at_key m.segment.key ≡ at_key k = cc in
      let same : k ≡ m.segment.key = cc in
      let own : same_text k m.segment.key ≡ true = subst (λ t. same_text k t ≡ true) same (same_text-refl k) in
      absurd (true-false (same_text k m.segment.key) own apart))) is)
      (λ m key node a same key_is is. here m key node (all-among (IsSlot ms) m (kept ms) (seat-slots all q ms seat) a) same key_is is)
    where
      mentioned : (b : Bool) → some_at any_role (one (at_key k)) ms ≡ b → b ≡ true
      mentioned true e = refl
      mentioned false e =
          let among = one-among n h ms only in
          true-false (some_at any_role (at_key k ∷ r) ms) (subst (λ p. some_at any_role p ms
          ≡ true) path (among-test any_role h ms among.0 refl)) (seat.are.closed [] k r e)

pub role-number : (n : ℕ) (m : Mention Source) → is_heading n m ≡ true → (m.source.headers == n) ≡ true
role-number n m h = and_right (is_bracket_role m.role) (m.source.headers == n) h
