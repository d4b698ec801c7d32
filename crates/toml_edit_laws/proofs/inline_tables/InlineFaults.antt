-- The first fault among the pairs of an inline table is where one can't be added to the slots of those before it.
use Rattle.std.proofs.Common.{◌≡◌, refl, sym, ◌∙◌, ap, ℕ, suc, ◌+◌, Bool, true, false, List, [], ◌∷◌, ◌++◌, append_assoc, length}
use Rattle.std.proofs.Common.{Option, Some, None}
use Rattle.std.specs.Prelude.{◌&&◌, MatchBool, if◌then◌else◌, map, option_map}
use Rattle.std.specs.List.{list_all}
use Rattle.std.proofs.lemmas.List.{map-append}
use Rattle.toml_edit_model.specs.Text.{Text}
use Rattle.toml_edit_model.specs.Syntax.{Frame, Value, scalar, array, inline_table, Pairs, no_pairs, pair}
use Rattle.toml_edit_model.specs.Paths.{Mention, PairSource, line_mentions, pair_mentions}
use Rattle.toml_edit_model.specs.Accepted.{agree, all_agree}
use Rattle.toml_edit_model.specs.Faults.{Fault, fault, first_clash, type_name, scalar_type, duplicate_key, cannot_extend, is_inline}
use Rattle.toml_edit_model.specs.Faults.{clash_message, pair_clash, pair_clashes}
use Rattle.toml_edit_model.specs.Tree.{Node, leaf, list, inline, Slots}
use Rattle.toml_edit_model.specs.TreeOf.{Form, Entry, entry_of, entries, IsValueNode, AreEntrySlots}
use Rattle.toml_edit_laws.specs.InlineTree.{entry_clash, pair_path, next_pair, followed_by, end_of_pairs}
use Rattle.toml_edit_laws.specs.InlineTree.{way_message, way_fault, BeginWith}
use Rattle.toml_edit_laws.proofs.common.Tests.{append-nil, and_left, and_right, and_both}
use Rattle.toml_edit_laws.proofs.inline_tables.AgreeLaws.{agree-clash, all_agree-next}
use Rattle.toml_edit_laws.proofs.inline_tables.AgreeingPairs.{AreAgreeing}
use Rattle.toml_edit_laws.proofs.inline_tables.InlineClash.{IsDotted, IsInTheWay, IsSameClash, entry_clashes}
use Rattle.toml_edit_laws.proofs.inline_tables.InlinePairs.{entry_paths, agreement-of, all-with-none}
use Rattle.toml_edit_laws.proofs.inline_tables.MentionSources.{sourced, both_sourced, line-sourced, clash-sourced}
use Rattle.toml_edit_laws.proofs.common.OptionSteps.{is_none}
use Rattle.toml_edit_model.specs.Roles.{Role, may_meet_inline, extends, is_value_role}
use Rattle.toml_edit_model.specs.TableMentions.{kept}

-- ---- by the values of pairs alone

abbrev value_clash : Option (Mention Value × Mention Value) → List Fault
value_clash None = []
value_clash (Some c) =
    fault (if is_inline c.1.source then duplicate_key else clash_message c.1.role c.0.role (type_name c.1.source)) c.0.start
    (length c.0.segment.spelled) ∷ []

abbrev value_clashes : List (Mention Value) → List (List (Mention Value)) → List Fault
value_clashes earlier [] = []
value_clashes earlier (m ∷ rest) = value_clash (first_clash may_meet_inline earlier m) ++ value_clashes (earlier ++ m) rest

abbrev value_paths : ℕ → Pairs → List (List (Mention Value))
value_paths start no_pairs = []
value_paths start (pair f v ps) = line_mentions v (start + length f.leading) [] f.path ∷ value_paths (next_pair start f v) ps

abbrev value_of_pair : PairSource → Value
value_of_pair s = s.value

abbrev value_of_entry : Entry → Value
value_of_entry e = e.value

clash-of-values : (o : Option (Mention PairSource × Mention PairSource)) → pair_clash o
    ≡ value_clash (option_map (both_sourced value_of_pair) o)
clash-of-values None = refl
clash-of-values (Some c) = refl

clashes-of-values : (earlier : List (Mention PairSource)) (start number : ℕ) (ps : Pairs)
    → pair_clashes earlier (pair_mentions start ps) ≡ value_clashes (map (sourced value_of_pair) earlier) (value_paths start ps)
clashes-of-values earlier start number no_pairs = refl
clashes-of-values earlier start number (pair f v ps) =
    let source : PairSource = record { frame = f; value = v } in
    let m = line_mentions source (start + length f.leading) [] f.path in
    let values = line_mentions v (start + length f.leading) [] f.path in
    let here : map (sourced value_of_pair) m ≡ values = line-sourced value_of_pair source (start + length f.leading) [] f.path in
    ap (λ fs. fs ++ pair_clashes (earlier ++ m) (pair_mentions (next_pair start f v) ps))
    (clash-of-values (first_clash may_meet_inline earlier m)
    ∙ ap value_clash (sym (clash-sourced value_of_pair may_meet_inline earlier m)
    ∙ ap (first_clash may_meet_inline (map (sourced value_of_pair) earlier)) here))
    ∙ ap (λ fs. value_clash (first_clash may_meet_inline (map (sourced value_of_pair) earlier) values) ++ fs)
    (clashes-of-values (earlier ++ m) (next_pair start f v) (suc number) ps
    ∙ ap (λ es. value_clashes es (value_paths (next_pair start f v) ps))
    (map-append (sourced value_of_pair) earlier m ∙ ap (λ es. map (sourced value_of_pair) earlier ++ es) here))

-- ---- what is said of a clash

-- what to say where the earlier role is a value's, or isn't
abbrev said : Bool → Role → Value → Text
said is_value later v = if is_inline v then duplicate_key else if is_value && extends later then cannot_extend (type_name v)
    else duplicate_key

said-other : (later : Role) (v : Value) → duplicate_key ≡ said false later v
said-other later v = by_inline (is_inline v)
  where
    by_inline : (b : Bool) → duplicate_key ≡ (if b then duplicate_key else duplicate_key)
    by_inline true = refl
    by_inline false = refl

module _ (form : Form) where
  said-value : (later : Role) (v : Value) (i : ℕ) (before after : Text) (n : Node) → IsValueNode form v i before after n
      → way_message later n ≡ said true later v
  said-value later (scalar s t) i before after (leaf r spelling d) h =
      ap (λ x. if extends later then cannot_extend (scalar_type x) else duplicate_key) h.0
  said-value later (scalar s t) i before after n h = absurd h
  said-value later (array es comma t) i before after (list f xs) h = refl
  said-value later (array es comma t) i before after n h = absurd h
  said-value later (inline_table ps comma t) i before after (inline f ss) h = refl
  said-value later (inline_table ps comma t) i before after n h = absurd h

  said-dotted : (later : Role) (n : Node) → IsDotted form n → way_message later n ≡ duplicate_key
  said-dotted later (inline f ss) h = refl
  said-dotted later n h = absurd h

  said-way : (later : Role) (e : Mention Entry) (n : Node) → IsInTheWay form e n → way_message later n
      ≡ said (is_value_role e.role) later e.source.value
  said-way later e n h = by_value (is_value_role e.role) h
    where
      by_value : (b : Bool) → MatchBool b (IsValueNode form e.source.value e.source.start e.source.before e.source.after n)
          (IsDotted form n) → way_message later n ≡ said b later e.source.value
      by_value true h = said-value later e.source.value e.source.start e.source.before e.source.after n h
      by_value false h = said-dotted later n h ∙ said-other later e.source.value

  path-values : (f : Frame) (v : Value) (start : ℕ) → map (sourced value_of_entry) (pair_path form start f v)
      ≡ line_mentions v (start + length f.leading) [] f.path
  path-values f v start = line-sourced value_of_entry (entry_of form start f v) (start + length f.leading) [] f.path

  values-after : (f : Frame) (v : Value) (start : ℕ) (ms : List (Mention Entry))
      → map (sourced value_of_entry) (ms ++ pair_path form start f v) ≡ map (sourced value_of_entry) ms
      ++ line_mentions v (start + length f.leading) [] f.path
  values-after f v start ms =
      map-append (sourced value_of_entry) ms (pair_path form start f v)
      ∙ ap (λ es. map (sourced value_of_entry) ms ++ es) (path-values f v start)

  -- the fault of a clash with slots
  abbrev way_faults : Option (Mention Entry × Node) → List Fault
  way_faults None = []
  way_faults (Some c) = way_fault c ∷ []

  same-fault : (o : Option (Mention Entry × Node)) (c : Option (Mention Entry × Mention Entry)) → IsSameClash form o c
      → value_clash (option_map (both_sourced value_of_entry) c) ≡ way_faults o
  same-fault None None h = refl
  same-fault None (Some d) h = absurd h
  same-fault (Some c) None h = absurd h
  same-fault (Some c) (Some d) h =
      ap (λ t. fault t d.0.start (length d.0.segment.spelled) ∷ []) (sym (said-way d.0.role d.1 c.1 h.1))
      ∙ ap (λ (m : Mention Entry). fault (way_message m.role c.1) m.start (length m.segment.spelled) ∷ []) (sym h.0)

  -- ---- one pair

  -- the fault of a pair after agreeing ones is that of its clash with their slots
  one-fault : (f : Frame) (v : Value) (start : ℕ) (ms : List (Mention Entry)) (ss : Slots) → AreAgreeing ms
      → AreEntrySlots form ms (kept ms) ss
      → value_clash (first_clash may_meet_inline (map (sourced value_of_entry) ms) (line_mentions v (start + length f.leading) [] f.path))
      ≡ way_faults (entry_clash (pair_path form start f v) ss)
  one-fault f v start ms ss are h =
      let path = pair_path form start f v in
      ap (λ p. value_clash (first_clash may_meet_inline (map (sourced value_of_entry) ms) p)) (sym (path-values f v start))
      ∙ ap value_clash (clash-sourced value_of_entry may_meet_inline ms path)
      ∙ same-fault (entry_clash path ss) (first_clash may_meet_inline ms path)
      (entry_clashes form (entry_of form start f v) (start + length f.leading) f.path ms ss are h)

  -- ---- pairs after pairs

  no-faults : (ps : Pairs) (start : ℕ) (ms : List (Mention Entry))
      → (list_all (agree may_meet_inline ms) (entry_paths form ps start) && all_agree may_meet_inline (entry_paths form ps start)) ≡ true
      → value_clashes (map (sourced value_of_entry) ms) (value_paths start ps) ≡ []
  no-faults no_pairs start ms h = refl
  no-faults (pair f v ps) start ms h =
      let path = pair_path form start f v in
      let others = entry_paths form ps (next_pair start f v) in
      let here = all_agree-next may_meet_inline ms path others ∙ h in
      let rest = list_all (agree may_meet_inline (ms ++ path)) others && all_agree may_meet_inline others in
      ap (λ o. value_clash o ++ value_clashes (map (sourced value_of_entry) ms
      ++ line_mentions v (start + length f.leading) [] f.path) (value_paths (next_pair start f v) ps))
      (ap (first_clash may_meet_inline (map (sourced value_of_entry) ms)) (sym (path-values f v start))
      ∙ clash-sourced value_of_entry may_meet_inline ms path
      ∙ ap (option_map (both_sourced value_of_entry))
      (none-is (first_clash may_meet_inline ms path) (sym (agree-clash may_meet_inline ms path)
      ∙ and_left (agree may_meet_inline ms path) rest here)))
      ∙ ap (λ es. value_clashes es (value_paths (next_pair start f v) ps)) (sym (values-after f v start ms))
      ∙ no-faults ps (next_pair start f v) (ms ++ path) (and_right (agree may_meet_inline ms path) rest here)
    where
      none-is : {A : Type 0} (o : Option A) → is_none o ≡ true → o ≡ None
      none-is None h = refl
      none-is (Some a) h = absurd cc

  clashes-followed : (ps qs : Pairs) (start : ℕ) (ms : List (Mention Entry))
      → value_clashes (map (sourced value_of_entry) ms) (value_paths start (followed_by ps qs))
      ≡ value_clashes (map (sourced value_of_entry) ms) (value_paths start ps)
      ++ value_clashes (map (sourced value_of_entry) (ms ++ entries form ps start)) (value_paths (end_of_pairs start ps) qs)
  clashes-followed no_pairs qs start ms =
      ap (λ es. value_clashes (map (sourced value_of_entry) es) (value_paths start qs)) (sym (append-nil ms))
  clashes-followed (pair f v ps) qs start ms =
      let path = pair_path form start f v in
      let values = line_mentions v (start + length f.leading) [] f.path in
      let here = value_clash (first_clash may_meet_inline (map (sourced value_of_entry) ms) values) in
      let more = value_clashes (map (sourced value_of_entry) ms ++ values) (value_paths (next_pair start f v) ps) in
      ap (λ fs. here ++ fs)
      (ap (λ es. value_clashes es (value_paths (next_pair start f v) (followed_by ps qs))) (sym (values-after f v start ms))
      ∙ clashes-followed ps qs (next_pair start f v) (ms ++ path)
      ∙ ap (λ es. value_clashes es (value_paths (next_pair start f v) ps)
      ++ value_clashes (map (sourced value_of_entry) ((ms ++ path) ++ entries form ps (next_pair start f v)))
      (value_paths (end_of_pairs (next_pair start f v) ps) qs))
      (values-after f v start ms)
      ∙ ap (λ us. more ++ value_clashes (map (sourced value_of_entry) us) (value_paths (end_of_pairs (next_pair start f v) ps) qs))
      (append_assoc ms path (entries form ps (next_pair start f v))))
      ∙ sym (append_assoc here more (value_clashes (map (sourced value_of_entry) (ms ++ (path ++ entries form ps (next_pair start f v))))
      (value_paths (end_of_pairs (next_pair start f v) ps) qs)))

  -- A pair that clashes with the slots of agreeing pairs before it is the first fault.
  pub clash_fault : (ps : Pairs) (f : Frame) (v : Value) (more : Pairs) (start number : ℕ) (ss : Slots) (c : Mention Entry × Node)
      → all_agree may_meet_inline (pair_mentions start ps) ≡ true → AreAgreeing (entries form ps start)
      → AreEntrySlots form (entries form ps start) (kept (entries form ps start)) ss
      → entry_clash (pair_path form (end_of_pairs start ps) f v) ss ≡ Some c
      → BeginWith (Some c) (pair_clashes [] (pair_mentions start (followed_by ps (pair f v more))))
  clash_fault ps f v more start number ss c right are h e =
      let end = end_of_pairs start ps in
      let ms = entries form ps start in
      let others = value_clashes (map (sourced value_of_entry) ms
      ++ line_mentions v (end + length f.leading) [] f.path) (value_paths (next_pair end f v) more) in (
        others,
        clashes-of-values [] start number (followed_by ps (pair f v more))
            ∙ clashes-followed ps (pair f v more) start []
            ∙ ap (λ fs. fs ++ value_clashes (map (sourced value_of_entry) ms) (value_paths end (pair f v more)))
            (no-faults ps start []
            (and_both (list_all (agree may_meet_inline []) (entry_paths form ps start))
            (all_agree may_meet_inline (entry_paths form ps start))
            (all-with-none form (entry_paths form ps start)) (agreement-of form ps start start number ∙ right)))
            ∙ ap (λ fs. fs ++ others) (one-fault f v end ms ss are h ∙ ap way_faults e),
      )
