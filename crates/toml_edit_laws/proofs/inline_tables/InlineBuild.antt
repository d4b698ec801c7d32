-- A pair that is added to the slots of the pairs before it gives the slots of all.
use Rattle.std.proofs.Common.{◌≡◌, refl, sym, ◌∙◌, ap, subst, ℕ, ◌+◌, Bool, true, false, List, [], ◌∷◌, ◌++◌, append_assoc, length, Option}
use Rattle.std.proofs.Common.{Some, None}
use Rattle.std.specs.Prelude.{◌&&◌, ◌||◌, not, if◌then◌else◌, option_map, is_some}
use Rattle.toml_edit_model.specs.Text.{Text, same_text}
use Rattle.toml_edit_model.specs.Syntax.{Segment, Frame, Value}
use Rattle.toml_edit_model.specs.Paths.{at_key, Path, same_path, to_key, Mention, mention_of, line_mentions, next_start}
use Rattle.toml_edit_model.specs.Tree.{Node, nothing, leaf, list, inline, table, tables, Slots, no_slots}
use Rattle.toml_edit_model.specs.TreeOf.{Form, Entry, key_of, key_extent, entry_of, value_start, IsValueNode, AreEntrySlots}
use Rattle.toml_edit_laws.specs.FlatTree.{with_slot}
use Rattle.toml_edit_laws.specs.InlineTree.{node_at, with_node, path_fields, change_below, add_last, add_entry}
use Rattle.toml_edit_laws.proofs.common.Tests.{append-nil, same_text-refl}
use Rattle.toml_edit_laws.proofs.mentions.GatherLaws.{all_deeper, some_at-first, unmentioned-none, under-deeper, under-other, kept-append}
use Rattle.toml_edit_laws.proofs.mentions.GatherLaws.{kept_from-deeper, kept-find, kept-distinct, plain-slot, first_of_key, first_of_key-is}
use Rattle.toml_edit_laws.proofs.mentions.GatherLaws.{AreHeadless}
use Rattle.toml_edit_laws.proofs.common.OptionSteps.{map_some, guard_read}
use Rattle.toml_edit_laws.proofs.inline_tables.PairMentions.{AreOfPairs, of_both, of_under, of_line, of_first, own-line, lines-deeper}
use Rattle.toml_edit_laws.proofs.inline_tables.EntrySlots.{IsEntryNode, slots-same, slots-kept, slots-add, slots-find, slots-change}
use Rattle.toml_edit_laws.proofs.inline_tables.EntrySlots.{IsFound, node-dotted, dotted-node}
use Rattle.toml_edit_laws.proofs.mentions.SomeAt.{under-append, some_at-under, own_mention}
use Rattle.toml_edit_model.specs.Roles.{Role, dotted_role, value_role, any_role}
use Rattle.toml_edit_model.specs.TableMentions.{under, own, some_at, kept_from, kept}

-- ---- the mentions of a pair, after others

-- the first mention, and others below it
abbrev pub path_of : {S : Type 0} → S → ℕ → Role → Segment → List (Mention S) → List (Mention S)
path_of source start role g below = mention_of source start (to_key [] g.key) role g ∷ all_deeper (at_key g.key) below

pub under-path : {S : Type 0} (source : S) (start : ℕ) (role : Role) (g : Segment) (below : List (Mention S))
    → under (at_key g.key) (path_of source start role g below) ≡ own_mention source start role g ∷ below
under-path source start role g below =
    rw (same_text-refl g.key) (ap (λ ms. own_mention source start role g ∷ ms) (under-deeper (at_key g.key) below))

pub under-others : {S : Type 0} (source : S) (start : ℕ) (role : Role) (g : Segment) (below : List (Mention S)) (ms : List (Mention S))
    (l : Text) → same_text g.key l ≡ false
    → under (at_key l) ms ≡ under (at_key l) (ms ++ path_of source start role g below)
under-others source start role g below ms l h =
    sym (under-append (at_key l) ms (path_of source start role g below)
    ∙ ap (λ us. under (at_key l) ms ++ us) (rw h (under-other (at_key g.key) (at_key l) below h))
    ∙ append-nil (under (at_key l) ms))

-- what the key's own table sees of all
pub under-all : {S : Type 0} (source : S) (start : ℕ) (role : Role) (g : Segment) (below : List (Mention S)) (ms : List (Mention S))
    → (under (at_key g.key) ms ++ (own_mention source start role g ∷ [])) ++ below
    ≡ under (at_key g.key) (ms ++ path_of source start role g below)
under-all source start role g below ms =
    append_assoc (under (at_key g.key) ms) (own_mention source start role g ∷ []) below
    ∙ ap (λ us. under (at_key g.key) ms ++ us) (sym (under-path source start role g below))
    ∙ sym (under-append (at_key g.key) ms (path_of source start role g below))

-- a new key gets a slot, and one that is there gets none
pub kept-new : {S : Type 0} (source : S) (start : ℕ) (role : Role) (g : Segment) (below : List (Mention S)) (ms : List (Mention S))
    → AreOfPairs ms → AreHeadless (path_of source start role g below) → own below ≡ [] → first_of_key g.key (kept ms) ≡ None
    → kept (ms ++ path_of source start role g below) ≡ kept ms ++ (mention_of source start (to_key [] g.key) role g ∷ [])
kept-new source start role g below ms are h none new =
    let m = mention_of source start (to_key [] g.key) role g in
    let rest = all_deeper (at_key g.key) below in
    let free : some_at any_role (at_key g.key ∷ []) ms ≡ false =
    some_at-first (at_key g.key ∷ []) ms ∙ ap is_some (sym (kept-find g.key ms are.named are.headless) ∙ new) in
    kept-append ms (m ∷ rest) h
    ∙ ap (λ b. kept ms ++ (if b then m ∷ kept_from (ms ++ (m ∷ [])) rest else kept_from (ms ++ (m ∷ [])) rest)) (plain-slot ms m rest h
    ∙ ap not free)
    ∙ ap (λ us. kept ms ++ (m ∷ us)) (kept_from-deeper (ms ++ (m ∷ [])) (at_key g.key) below none)

pub kept-old : {S : Type 0} (source : S) (start : ℕ) (role : Role) (g : Segment) (below : List (Mention S)) (ms : List (Mention S))
    (j : Mention S)
    → AreOfPairs ms → AreHeadless (path_of source start role g below) → own below ≡ [] → first_of_key g.key (kept ms) ≡ Some j
    → kept (ms ++ path_of source start role g below) ≡ kept ms
kept-old source start role g below ms j are h none old =
    let m = mention_of source start (to_key [] g.key) role g in
    let rest = all_deeper (at_key g.key) below in
    let seen : some_at any_role (at_key g.key ∷ []) ms ≡ true =
    some_at-first (at_key g.key ∷ []) ms ∙ ap is_some (sym (kept-find g.key ms are.named are.headless) ∙ old) in
    kept-append ms (m ∷ rest) h
    ∙ ap (λ b. kept ms ++ (if b then m ∷ kept_from (ms ++ (m ∷ [])) rest else kept_from (ms ++ (m ∷ [])) rest)) (plain-slot ms m rest h
    ∙ ap not seen)
    ∙ ap (λ us. kept ms ++ us) (kept_from-deeper (ms ++ (m ∷ [])) (at_key g.key) below none)
    ∙ append-nil (kept ms)

-- a mention of a table itself gets no slot, and is under no key
pub kept-own : {S : Type 0} (source : S) (start : ℕ) (g : Segment) (ms : List (Mention S))
    → kept (ms ++ (own_mention source start dotted_role g ∷ [])) ≡ kept ms
kept-own source start g ms = kept-append ms (own_mention source start dotted_role g ∷ []) (λ p. by_test (same_path [] p))
    ∙ append-nil (kept ms)
  where
    by_test : (b : Bool) → ((b && false) || false) ≡ false
    by_test true = refl
    by_test false = refl

pub under-own : {S : Type 0} (source : S) (start : ℕ) (g : Segment) (ms : List (Mention S)) (l : Text)
    → under (at_key l) ms ≡ under (at_key l) (ms ++ (own_mention source start dotted_role g ∷ []))
under-own source start g ms l =
    sym (under-append (at_key l) ms (own_mention source start dotted_role g ∷ []) ∙ append-nil (under (at_key l) ms))

-- below a key that isn't mentioned nothing is
pub under-new : {S : Type 0} (k : Text) (ms : List (Mention S)) → AreOfPairs ms → first_of_key k (kept ms) ≡ None → under (at_key k) ms ≡ []
under-new k ms are new =
    let free : some_at any_role (at_key k ∷ []) ms ≡ false =
    some_at-first (at_key k ∷ []) ms ∙ ap is_some (sym (kept-find k ms are.named are.headless) ∙ new) in
    unmentioned-none (under (at_key k) ms) (λ p. some_at-under any_role (at_key k) p ms ∙ are.closed [] (at_key k) p free)

-- what one key's own table sees is of pairs
pub of_own : {S : Type 0} (source : S) (start : ℕ) (g : Segment) (ms : List (Mention S)) → AreOfPairs ms
    → AreOfPairs (under (at_key g.key) ms ++ (own_mention source start dotted_role g ∷ []))
of_own source start g ms are =
    of_both (under (at_key g.key) ms) (own_mention source start dotted_role g ∷ []) (of_under (at_key g.key) ms are)
    (subst AreOfPairs (under-path source start dotted_role g [])
    (of_under (at_key g.key) (path_of source start dotted_role g []) (of_first source start g)))

module _ (form : Form) where
  -- ---- one level

  -- a new slot goes last
  pub new-slot : (source : Entry) (start : ℕ) (role : Role) (g : Segment) (below ms : List (Mention Entry)) (n : Node) (ss : Slots)
      → AreOfPairs ms → AreHeadless (path_of source start role g below) → own below ≡ [] → first_of_key g.key (kept ms) ≡ None
      → AreEntrySlots form ms (kept ms) ss
      → IsEntryNode form (ms ++ path_of source start role g below) (mention_of source start (to_key [] g.key) role g) n
      → AreEntrySlots form (ms ++ path_of source start role g below) (kept (ms ++ path_of source start role g below))
      (with_slot ss (key_of form source.leaf (mention_of source start (to_key [] g.key) role g)) n)
  new-slot source start role g below ms n ss are h none new slots node =
      let m = mention_of source start (to_key [] g.key) role g in
      let all = ms ++ path_of source start role g below in
      subst (λ ks. AreEntrySlots form all ks (with_slot ss (key_of form source.leaf m) n))
      (sym (kept-new source start role g below ms are h none new))
      (slots-add form all (kept ms) m n ss (slots-same form ms all (kept ms) g.key ss (under-others source start role g below ms) new slots)
      node)

  -- a slot that is there gets another item
  pub old-slot : (source : Entry) (start : ℕ) (role : Role) (g : Segment) (below ms : List (Mention Entry)) (j : Mention Entry) (n : Node)
      (ss : Slots)
      → AreOfPairs ms → AreHeadless (path_of source start role g below) → own below ≡ [] → first_of_key g.key (kept ms) ≡ Some j
      → AreEntrySlots form ms (kept ms) ss → IsEntryNode form (ms ++ path_of source start role g below) j n
      → AreEntrySlots form (ms ++ path_of source start role g below) (kept (ms ++ path_of source start role g below)) (with_node g.key n ss)
  old-slot source start role g below ms j n ss are h none old slots node =
      let all = ms ++ path_of source start role g below in
      subst (λ ks. AreEntrySlots form all ks (with_node g.key n ss)) (sym (kept-old source start role g below ms j are h none old))
      (slots-change form ms all (kept ms) g.key j n ss (under-others source start role g below ms) (kept-distinct ms are.named are.headless)
      old node slots)

  -- ---- a whole path

  -- The item of this source goes down a path of segments, below mentions whose slots are these.
  abbrev IsAdded : Entry → ℕ → List Segment → List (Mention Entry) → Slots → Type 0
  IsAdded source start segments ms next =
      AreEntrySlots form (ms ++ line_mentions source start [] segments) (kept (ms ++ line_mentions source start [] segments)) next

  add-last : (source : Entry) (start : ℕ) (g : Segment) (ms : List (Mention Entry)) (n : Node) (ss next : Slots)
      → IsValueNode form source.value source.start source.before source.after n
      → AreOfPairs ms → AreEntrySlots form ms (kept ms) ss
      → (o : Option Node) → IsFound form ms (first_of_key g.key (kept ms)) o
      → add_last ss (key_of form source.leaf (mention_of source start (to_key [] g.key) value_role g)) n o ≡ Some next
      → IsAdded source start (g ∷ []) ms next
  add-last source start g ms n ss next value are slots (Some x) found e = absurd cc
  add-last source start g ms n ss next value are slots None found e = by_first (first_of_key g.key (kept ms)) refl found
    where
      by_first : (o : Option (Mention Entry)) → first_of_key g.key (kept ms) ≡ o → IsFound form ms o None
          → IsAdded source start (g ∷ []) ms next
      by_first (Some j) new found = absurd found
      by_first None new found =
          let last : with_slot ss (key_of form source.leaf (mention_of source start (to_key [] g.key) value_role g)) n ≡ next = cc in
          subst (IsAdded source start (g ∷ []) ms) last
          (new-slot source start value_role g [] ms n ss are (of_line source start (g ∷ [])).headless refl new slots (refl, value, tt))

  -- how the rest of the path is added, to any slots of mentions
  abbrev GoesOn : (Slots → Option Slots) → List (Mention Entry) → Type 0
  GoesOn add below =
      (xs : List (Mention Entry)) (ss next : Slots) → AreOfPairs xs → AreEntrySlots form xs (kept xs) ss → add ss ≡ Some next
      → AreEntrySlots form (xs ++ below) (kept (xs ++ below)) next

  -- what the key's own table sees, and its slots, once the rest of the path is added to these
  deeper-slots : (source : Entry) (start : ℕ) (g : Segment) (below ms : List (Mention Entry)) (add : Slots
      → Option Slots) (inner next : Slots)
      → AreOfPairs ms → AreEntrySlots form (under (at_key g.key) ms) (kept (under (at_key g.key) ms)) inner → GoesOn add below → add inner
      ≡ Some next
      → AreEntrySlots form (under (at_key g.key) (ms ++ path_of source start dotted_role g below))
      (kept (under (at_key g.key) (ms ++ path_of source start dotted_role g below))) next
  deeper-slots source start g below ms add inner next are slots on e =
      let here = under (at_key g.key) ms in
      let xs = here ++ (own_mention source start dotted_role g ∷ []) in
      subst (λ us. AreEntrySlots form us (kept us) next) (under-all source start dotted_role g below ms)
      (on xs inner next (of_own source start g ms are)
      (subst (λ ks. AreEntrySlots form xs ks inner) (sym (kept-own source start g here))
      (slots-kept form here xs (kept here) inner (under-own source start g here) slots))
      e)

  add-below : (source : Entry) (start : ℕ) (g : Segment) (below ms : List (Mention Entry)) (add : Slots → Option Slots) (ss next : Slots)
      → AreOfPairs ms → AreEntrySlots form ms (kept ms) ss → AreHeadless (path_of source start dotted_role g below) → own below ≡ []
      → GoesOn add below
      → (o : Option Node) → IsFound form ms (first_of_key g.key (kept ms)) o
      → change_below (key_of form source.leaf (mention_of source start (to_key [] g.key) dotted_role g))
      (path_fields (key_extent form (mention_of source start (to_key [] g.key) dotted_role g))) add ss o ≡ Some next
      → AreEntrySlots form (ms ++ path_of source start dotted_role g below) (kept (ms ++ path_of source start dotted_role g below)) next
  add-below source start g below ms add ss next are slots h none on None found e = by_first (first_of_key g.key (kept ms)) refl found
    where
      m : Mention Entry
      m = mention_of source start (to_key [] g.key) dotted_role g

      all : List (Mention Entry)
      all = ms ++ path_of source start dotted_role g below

      by_first : (o : Option (Mention Entry)) → first_of_key g.key (kept ms) ≡ o → IsFound form ms o None
          → AreEntrySlots form all (kept all) next
      by_first (Some j) new found = absurd found
      by_first None new found =
          let (inner, added, made) =
          map_some (add no_slots) (λ (inner : Slots). with_slot ss (key_of form source.leaf m)
          (inline (path_fields (key_extent form m)) inner)) next e in
          let empty : AreEntrySlots form (under (at_key g.key) ms) (kept (under (at_key g.key) ms)) no_slots =
          subst (λ us. AreEntrySlots form us (kept us) no_slots) (sym (under-new g.key ms are new)) tt in
          subst (λ ns. AreEntrySlots form all (kept all) ns) made
          (new-slot source start dotted_role g below ms (inline (path_fields (key_extent form m)) inner) ss are h none new slots
          (dotted-node form all m (path_fields (key_extent form m)) inner
          (refl, refl, deeper-slots source start g below ms add no_slots inner are empty on added)))
  add-below source start g below ms add ss next are slots h none on (Some (inline f inner)) found e =
      by_first (first_of_key g.key (kept ms)) refl found
    where
      all : List (Mention Entry)
      all = ms ++ path_of source start dotted_role g below

      by_first : (o : Option (Mention Entry)) → first_of_key g.key (kept ms) ≡ o → IsFound form ms o (Some (inline f inner))
          → AreEntrySlots form all (kept all) next
      by_first None old found = absurd found
      by_first (Some j) old found =
          let (dotted, f_changed) =
          guard_read f.is_dotted (option_map (λ (changed : Slots). with_node g.key (inline f changed) ss) (add inner)) next e in
          let (changed, added, made) = map_some (add inner) (λ (changed : Slots). with_node g.key (inline f changed) ss) next f_changed in
          let (ends, fields, inside) = node-dotted form ms j f inner dotted found in
          let key : g.key ≡ j.segment.key = first_of_key-is g.key (kept ms) j old in
          subst (λ ns. AreEntrySlots form all (kept all) ns) made
          (old-slot source start dotted_role g below ms j (inline f changed) ss are h none old slots
          (dotted-node form all j f changed (
            ends,
            fields,
            subst (λ k. AreEntrySlots form (under (at_key k) all) (kept (under (at_key k) all)) changed) key
                (deeper-slots source start g below ms add inner changed are
                (subst (λ k. AreEntrySlots form (under (at_key k) ms) (kept (under (at_key k) ms)) inner) (sym key) inside) on added),
          )))
  add-below source start g below ms add ss next are slots h none on (Some nothing) found e = absurd cc
  add-below source start g below ms add ss next are slots h none on (Some (leaf s r d)) found e = absurd cc
  add-below source start g below ms add ss next are slots h none on (Some (list f xs)) found e = absurd cc
  add-below source start g below ms add ss next are slots h none on (Some (table f us)) found e = absurd cc
  add-below source start g below ms add ss next are slots h none on (Some (tables x xs)) found e = absurd cc

  entry-below : (m : Mention Entry) (source : Entry) (start : ℕ) (p : Path) (h : Segment) (rest : List Segment) (n : Node) (ss : Slots)
      → add_entry form (m ∷ line_mentions source start p (h ∷ rest)) n ss
      ≡ change_below (key_of form m.source.leaf m) (path_fields (key_extent form m))
      (add_entry form (line_mentions source start p (h ∷ rest)) n) ss (node_at m.segment.key ss)
  entry-below m source start p h [] n ss = refl
  entry-below m source start p h (g ∷ rest) n ss = refl

  add-path : (source : Entry) (start : ℕ) (p : Path) (segments : List Segment) (ms : List (Mention Entry)) (n : Node) (ss next : Slots)
      → IsValueNode form source.value source.start source.before source.after n
      → AreOfPairs ms → AreEntrySlots form ms (kept ms) ss → add_entry form (line_mentions source start p segments) n ss ≡ Some next
      → IsAdded source start segments ms next
  add-path source start p [] ms n ss next value are slots e = absurd cc
  add-path source start p (g ∷ []) ms n ss next value are slots e =
      add-last source start g ms n ss next value are slots (node_at g.key ss) (slots-find form ms (kept ms) g.key ss slots) e
  add-path source start p (g ∷ h ∷ rest) ms n ss next value are slots e =
      let below = line_mentions source (next_start start g) [] (h ∷ rest) in
      let path = line_mentions source start [] (g ∷ h ∷ rest) in
      let paths : path ≡ path_of source start dotted_role g below =
      ap (λ us. mention_of source start (to_key [] g.key) dotted_role g
      ∷ us) (lines-deeper source (next_start start g) (at_key g.key) [] (h ∷ rest)) in
      subst (λ us. AreEntrySlots form (ms ++ us) (kept (ms ++ us)) next) (sym paths)
      (add-below source start g below ms (add_entry form (line_mentions source (next_start start g) (to_key p g.key) (h ∷ rest)) n) ss next
      are slots
      (subst AreHeadless paths (of_line source start (g ∷ h ∷ rest)).headless) (own-line source (next_start start g) (h ∷ rest))
      (λ xs us ns. add-path source (next_start start g) (to_key p g.key) (h ∷ rest) xs n us ns value)
      (node_at g.key ss) (slots-find form ms (kept ms) g.key ss slots)
      (sym (entry-below (mention_of source start (to_key p g.key) dotted_role g) source (next_start start g) (to_key p g.key) h rest n ss)
      ∙ e))

  -- ---- a pair

  -- A pair that is added to the slots of the pairs before it gives the slots of all.
  pub entry_added : (start : ℕ) (f : Frame) (v : Value) (ms : List (Mention Entry)) (n : Node) (ss next : Slots)
      → IsValueNode form v (start + value_start form f) f.after_equals f.trailing n
      → AreOfPairs ms → AreEntrySlots form ms (kept ms) ss
      → add_entry form (line_mentions (entry_of form start f v) (start + length f.leading) [] f.path) n ss ≡ Some next
      → AreEntrySlots form (ms ++ line_mentions (entry_of form start f v) (start + length f.leading) [] f.path)
      (kept (ms ++ line_mentions (entry_of form start f v) (start + length f.leading) [] f.path)) next
  entry_added start f v ms n ss next = add-path (entry_of form start f v) (start + length f.leading) [] f.path ms n ss next
