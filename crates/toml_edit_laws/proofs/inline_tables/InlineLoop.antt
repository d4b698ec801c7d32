-- The loop over the pairs of an inline table: one more is added, or clashes.
use Rattle.std.proofs.Common.{◌≡◌, refl, sym, ◌∙◌, ap, subst, ℕ, ◌+◌, Bool, true, false, List, [], ◌∷◌, ◌++◌, append_assoc, length, Some}
use Rattle.std.specs.Prelude.{◌&&◌, is_some}
use Rattle.std.specs.List.{list_all}
use Rattle.std.proofs.Math.Bool.{and-false}
use Rattle.toml_edit_model.specs.Text.{is_empty}
use Rattle.toml_edit_model.specs.Syntax.{Segment, Frame, Value, Pairs, no_pairs, pair, begins_unspaced, ArePairs}
use Rattle.toml_edit_model.specs.Paths.{Mention, pair_mentions}
use Rattle.toml_edit_model.specs.Accepted.{agree, all_agree}
use Rattle.toml_edit_model.specs.Faults.{first_clash, pair_clashes}
use Rattle.toml_edit_model.specs.Tree.{Node, Slots, no_slots}
use Rattle.toml_edit_model.specs.TreeOf.{Form, Entry, entry_of, entries, AreEntrySlots}
use Rattle.toml_edit_laws.specs.InlineTree.{add_entry, entry_clash, pair_path, next_pair, followed_by, end_of_pairs, AreKeyed, IsPairNode}
use Rattle.toml_edit_laws.specs.InlineTree.{BeginWith}
use Rattle.toml_edit_laws.proofs.common.Tests.{append-nil, and_left, and_right, and_both, and-true, and-assoc}
use Rattle.toml_edit_laws.proofs.inline_tables.AgreeLaws.{agree-clash, all_agree-next}
use Rattle.toml_edit_laws.proofs.inline_tables.AgreeingPairs.{AreAgreeing, agreeing-none, agreeing-line, agreeing-both}
use Rattle.toml_edit_laws.proofs.inline_tables.InlineBuild.{entry_added}
use Rattle.toml_edit_laws.proofs.inline_tables.InlineClash.{same-none, entry_clashes, entry_goes}
use Rattle.toml_edit_laws.proofs.inline_tables.InlinePairs.{entry_paths, agreement-of, all-with-none}
use Rattle.toml_edit_laws.proofs.inline_tables.InlineFaults.{clash_fault}
use Rattle.toml_edit_laws.proofs.common.OptionSteps.{is_none}
use Rattle.toml_edit_model.specs.Roles.{may_meet_inline}
use Rattle.toml_edit_model.specs.TableMentions.{kept}

-- each pair of the grammar has a key
pub keyed_pairs : (ps : Pairs) → ArePairs ps → AreKeyed ps
keyed_pairs no_pairs h = tt
keyed_pairs (pair f v ps) h = (by_path f.path h.0.1.begins, keyed_pairs ps h.2)
  where
    by_path : (p : List Segment) → begins_unspaced p ≡ true → is_empty p ≡ false
    by_path [] e = absurd cc
    by_path (s ∷ p) e = refl

module _ (form : Form) where
  -- ---- pairs after pairs

  pub entries-followed : (ps qs : Pairs) (start : ℕ) → entries form (followed_by ps qs) start ≡ entries form ps start
      ++ entries form qs (end_of_pairs start ps)
  entries-followed no_pairs qs start = refl
  entries-followed (pair f v ps) qs start =
      ap (λ ms. pair_path form start f v ++ ms) (entries-followed ps qs (next_pair start f v))
      ∙ sym (append_assoc (pair_path form start f v) (entries form ps (next_pair start f v))
      (entries form qs (end_of_pairs (next_pair start f v) ps)))

  agree-all : (ps : Pairs) (start : ℕ) (ms : List (Mention Entry)) → AreAgreeing ms
      → (list_all (agree may_meet_inline ms) (entry_paths form ps start) && all_agree may_meet_inline (entry_paths form ps start)) ≡ true
      → AreAgreeing (ms ++ entries form ps start)
  agree-all no_pairs start ms are h = subst AreAgreeing (sym (append-nil ms)) are
  agree-all (pair f v ps) start ms are h =
      let path = pair_path form start f v in
      let others = entry_paths form ps (next_pair start f v) in
      let here = all_agree-next may_meet_inline ms path others ∙ h in
      let rest = list_all (agree may_meet_inline (ms ++ path)) others && all_agree may_meet_inline others in
      subst AreAgreeing (append_assoc ms path (entries form ps (next_pair start f v)))
      (agree-all ps (next_pair start f v) (ms ++ path)
      (agreeing-both ms path are (agreeing-line (entry_of form start f v) (start + length f.leading) f.path)
      (and_left (agree may_meet_inline ms path) rest here))
      (and_right (agree may_meet_inline ms path) rest here))

  -- The mentions of agreeing pairs.
  pub agreeing_entries : (ps : Pairs) (start place number : ℕ) → all_agree may_meet_inline (pair_mentions place ps) ≡ true
      → AreAgreeing (entries form ps start)
  agreeing_entries ps start place number h =
      agree-all ps start [] agreeing-none
      (and_both (list_all (agree may_meet_inline []) (entry_paths form ps start)) (all_agree may_meet_inline (entry_paths form ps start))
      (all-with-none form (entry_paths form ps start)) (agreement-of form ps start place number ∙ h))

  -- pairs after others agree where they do among themselves and with those
  abbrev AgreeAfter : List (Mention Entry) → Pairs → ℕ → Bool
  AgreeAfter ms ps start = list_all (agree may_meet_inline ms) (entry_paths form ps start)
      && all_agree may_meet_inline (entry_paths form ps start)

  agree-followed : (ps qs : Pairs) (start : ℕ) (ms : List (Mention Entry))
      → AgreeAfter ms (followed_by ps qs) start ≡ (AgreeAfter ms ps start
      && AgreeAfter (ms ++ entries form ps start) qs (end_of_pairs start ps))
  agree-followed no_pairs qs start ms = ap (λ us. AgreeAfter us qs start) (sym (append-nil ms))
  agree-followed (pair f v ps) qs start ms =
      let path = pair_path form start f v in
      let next = next_pair start f v in
      let end = end_of_pairs next ps in
      sym (all_agree-next may_meet_inline ms path (entry_paths form (followed_by ps qs) next))
      ∙ ap (λ b. agree may_meet_inline ms path && b) (agree-followed ps qs next (ms ++ path))
      ∙ sym (and-assoc (agree may_meet_inline ms path) (AgreeAfter (ms ++ path) ps next) (AgreeAfter ((ms ++ path)
      ++ entries form ps next) qs end))
      ∙ ap (λ b. b && AgreeAfter ((ms ++ path) ++ entries form ps next) qs end)
      (all_agree-next may_meet_inline ms path (entry_paths form ps next))
      ∙ ap (λ us. AgreeAfter ms (pair f v ps) start && AgreeAfter us qs end) (append_assoc ms path (entries form ps next))

  -- from nothing
  agreement-from : (ps : Pairs) (start place number : ℕ) → AgreeAfter [] ps start ≡ all_agree may_meet_inline (pair_mentions place ps)
  agreement-from ps start place number =
      ap (λ b. b && all_agree may_meet_inline (entry_paths form ps start)) (all-with-none form (entry_paths form ps start))
      ∙ agreement-of form ps start place number

  -- One pair more agrees where it does with the mentions of the others.
  pub agreement_followed : (ps : Pairs) (f : Frame) (v : Value) (start place number : ℕ)
      → all_agree may_meet_inline (pair_mentions place (followed_by ps (pair f v no_pairs)))
      ≡ (all_agree may_meet_inline (pair_mentions place ps)
      && agree may_meet_inline (entries form ps start) (pair_path form (end_of_pairs start ps) f v))
  agreement_followed ps f v start place number =
      sym (agreement-from (followed_by ps (pair f v no_pairs)) start place number)
      ∙ agree-followed ps (pair f v no_pairs) start []
      ∙ ap (λ b. b && AgreeAfter (entries form ps start) (pair f v no_pairs) (end_of_pairs start ps)) (agreement-from ps start place number)
      ∙ ap (λ b. all_agree may_meet_inline (pair_mentions place ps) && b)
      (and-true (agree may_meet_inline (entries form ps start) (pair_path form (end_of_pairs start ps) f v) && true)
      ∙ and-true (agree may_meet_inline (entries form ps start) (pair_path form (end_of_pairs start ps) f v)))

  -- ---- one more pair

  -- The slots are those of these pairs, which agree.
  pub record AreSlotsOfPairs (ps : Pairs) (start : ℕ) (ss : Slots) : Type 0 where
    pub slots : AreEntrySlots form (entries form ps start) (kept (entries form ps start)) ss
    pub agreement : all_agree may_meet_inline (pair_mentions 0 ps) ≡ true

  pub at_first : (start : ℕ) → AreSlotsOfPairs no_pairs start no_slots
  at_first start = record { slots = tt; agreement = refl }

  -- A pair that can be added joins them.
  pub one_more : (ps : Pairs) (f : Frame) (v : Value) (start : ℕ) (n : Node) (ss next : Slots) → AreSlotsOfPairs ps start ss
      → is_empty f.path ≡ false
      → IsPairNode form (end_of_pairs start ps) f v n → add_entry form (pair_path form (end_of_pairs start ps) f v) n ss ≡ Some next
      → AreSlotsOfPairs (followed_by ps (pair f v no_pairs)) start next
  one_more ps f v start n ss next h keyed node e =
      let end = end_of_pairs start ps in
      let path = pair_path form end f v in
      let are = agreeing_entries ps start 0 0 h.agreement in
      let agreed : agree may_meet_inline (entries form ps start) path ≡ true =
      sym (entry_goes form (entry_of form end f v) (end + length f.leading) f.path (entries form ps start) n ss keyed are h.slots)
      ∙ ap is_some e in
      let all : entries form ps start ++ path ≡ entries form (followed_by ps (pair f v no_pairs)) start =
      ap (λ us. entries form ps start ++ us) (sym (append-nil path)) ∙ sym (entries-followed ps (pair f v no_pairs) start) in
      record {
        slots = subst (λ us. AreEntrySlots form us (kept us) next) all
            (entry_added form end f v (entries form ps start) n ss next node are.pairs h.slots e);
        agreement = agreement_followed ps f v start 0 0
            ∙ and_both (all_agree may_meet_inline (pair_mentions 0 ps)) (agree may_meet_inline (entries form ps start) path) h.agreement
            agreed;
      }

  -- One that can't be added is where the pairs cease to agree, and the first fault, whatever follows.
  pub one_clash : (ps : Pairs) (f : Frame) (v : Value) (more : Pairs) (start number : ℕ) (ss : Slots) (c : Mention Entry × Node)
      → AreSlotsOfPairs ps start ss
      → entry_clash (pair_path form (end_of_pairs start ps) f v) ss ≡ Some c
      → (all_agree may_meet_inline (pair_mentions 0 (followed_by ps (pair f v more))) ≡ false)
      × BeginWith (Some c) (pair_clashes [] (pair_mentions start (followed_by ps (pair f v more))))
  one_clash ps f v more start number ss c h e =
      let end = end_of_pairs start ps in
      let are = agreeing_entries ps start 0 0 h.agreement in
      let right : all_agree may_meet_inline (pair_mentions start ps) ≡ true =
      sym (agreement-of form ps start start number) ∙ agreement-of form ps start 0 0 ∙ h.agreement in
      let ms = entries form ps start in
      let path = pair_path form end f v in
      let rest = entry_paths form more (next_pair end f v) in
      let off : agree may_meet_inline ms path ≡ false =
      agree-clash may_meet_inline ms path
      ∙ sym (same-none form (entry_clash path ss) (first_clash may_meet_inline ms path) (entry_clashes form (entry_of form end f v) (end
      + length f.leading) f.path ms ss are h.slots))
      ∙ ap is_none e in
      let apart : all_agree may_meet_inline (pair_mentions 0 (followed_by ps (pair f v more))) ≡ false =
      sym (agreement-from (followed_by ps (pair f v more)) start 0 0)
      ∙ agree-followed ps (pair f v more) start []
      ∙ ap (λ b. AgreeAfter [] ps start && ((b && list_all (agree may_meet_inline ms) rest)
      && all_agree may_meet_inline (entry_paths form (pair f v more) end))) off
      ∙ and-false (AgreeAfter [] ps start) in
      (apart, clash_fault form ps f v more start number ss c right are h.slots e)
