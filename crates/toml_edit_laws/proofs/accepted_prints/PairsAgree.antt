-- The pairs of each printed inline table agree.
use Rattle.std.proofs.Common.{◌≡◌, refl, sym, ◌∙◌, ap, subst, ℕ, suc, ◌+◌, Bool, true, false, List, [], ◌∷◌, ◌++◌, append_assoc, length}
use Rattle.std.specs.Prelude.{◌||◌, not, map}
use Rattle.std.specs.List.{list_all, AllByRecursion}
use Rattle.toml_edit_model.specs.Mode.{Mode}
use Rattle.toml_edit_model.specs.Text.{Text}
use Rattle.toml_edit_model.specs.Syntax.{Pairs, no_pairs, pair, value_text, frame_text}
use Rattle.toml_edit_model.specs.Paths.{at_key, Path, same_path, to_key, Mention, line_mentions, pair_mentions}
use Rattle.toml_edit_model.specs.Accepted.{agree, all_agree, has_agreeing_pairs, elements_have_agreeing_pairs, pairs_have_agreeing_pairs}
use Rattle.toml_edit_model.specs.Tree.{Node, IsWellMade, shown_raw}
use Rattle.toml_edit_model.specs.Print.{Line, value_of, inside_lines, pairs_of_lines, add_after_pairs, close_inline}
use Rattle.toml_edit_laws.proofs.common.Tests.{and_both, append-nil}
use Rattle.toml_edit_laws.proofs.common.PathLaws.{same_path-is}
use Rattle.toml_edit_laws.proofs.accepted_prints.NamedPaths.{segments-names, line-told}
use Rattle.toml_edit_laws.proofs.accepted_prints.LinePlaces.{Parted, inside-parted}
use Rattle.toml_edit_laws.proofs.common.Cores.{Core, core, keys_of_segments, line_cores}
use Rattle.toml_edit_laws.proofs.common.Pairs.{AllPairs, pairs-image}
use Rattle.toml_edit_laws.proofs.accepted_prints.EachPrintedValue.{LooksAtEach, after-pairs, value-passes}
use Rattle.toml_edit_model.specs.Roles.{Role, dotted_role, implied_role, header_role, array_role, value_role, continued_role}
use Rattle.toml_edit_model.specs.Roles.{may_meet_inline}
use Rattle.toml_edit_model.specs.Keys.{names}

-- ---- two pairs

-- what a pair says: a path on the way to its own is dotted, and its own a value's
abbrev OnWay : Path → Core → Type 0
OnWay whole (q, value_role) = q ≡ whole
OnWay whole (q, dotted_role) = (rest : Path) × (whole ≡ q ++ rest)
OnWay whole (q, implied_role) = ⊥
OnWay whole (q, header_role) = ⊥
OnWay whole (q, array_role) = ⊥
OnWay whole (q, continued_role) = ⊥

told-way : (p : Path) (ns : List Text) → AllByRecursion (OnWay (p ++ map at_key ns)) (line_cores p ns)
told-way p [] = tt
told-way p (n ∷ []) = (refl, tt)
told-way p (n ∷ m ∷ rest) =
    let same : to_key p n ++ map at_key (m ∷ rest) ≡ p ++ map at_key (n ∷ m ∷ rest) =
    append_assoc p (at_key n ∷ []) (map at_key (m ∷ rest)) in (
      (map at_key (m ∷ rest), sym same),
      subst (λ whole. AllByRecursion (OnWay whole) (line_cores (to_key p n) (m ∷ rest))) same
          (told-way (to_key p n) (m ∷ rest)),
    )

pub parted-front : (xs ys : List Text) (rest : Path) → Parted xs ys → map at_key ys ≡ map at_key xs ++ rest → ⊥
parted-front xs ys rest h e =
    clash h.common (subst (λ zs. map at_key (h.common ++ (h.second ∷ h.after_second)) ≡ map at_key zs
    ++ rest) h.is_first (subst (λ zs. map at_key zs ≡ map at_key xs ++ rest) h.is_second e))
  where
    clash : (common : List Text)
        → map at_key (common ++ (h.second ∷ h.after_second)) ≡ map at_key (common ++ (h.first ∷ h.after_first)) ++ rest → ⊥
    clash [] g = h.differ cc
    clash (c ∷ common) g = clash common cc

pub parted-swap : (xs ys : List Text) → Parted xs ys → Parted ys xs
parted-swap xs ys h =
    record {
      common = h.common;
      first = h.second;
      second = h.first;
      after_first = h.after_second;
      after_second = h.after_first;
      is_first = h.is_second;
      is_second = h.is_first;
      differ = λ e. h.differ (sym e);
    }

-- what two parted pairs say may meet
way-meet : (xs ys : List Text) (q : Path) (r s : Role) → Parted xs ys → OnWay (map at_key xs) (q, r) → OnWay (map at_key ys) (q, s)
    → may_meet_inline r s ≡ true
way-meet xs ys q dotted_role dotted_role h f g = refl
way-meet xs ys q value_role dotted_role h f g = absurd (parted-front xs ys g.0 h (g.1 ∙ ap (λ p. p ++ g.0) f))
way-meet xs ys q dotted_role value_role h f g = absurd (parted-front ys xs f.0 (parted-swap xs ys h) (f.1 ∙ ap (λ p. p ++ f.0) g))
way-meet xs ys q value_role value_role h f g = absurd (parted-front xs ys [] h (sym g ∙ f ∙ sym (append-nil (map at_key xs))))
way-meet xs ys q implied_role s h f g = absurd f
way-meet xs ys q header_role s h f g = absurd f
way-meet xs ys q array_role s h f g = absurd f
way-meet xs ys q continued_role s h f g = absurd f
way-meet xs ys q dotted_role implied_role h f g = absurd g
way-meet xs ys q dotted_role header_role h f g = absurd g
way-meet xs ys q dotted_role array_role h f g = absurd g
way-meet xs ys q dotted_role continued_role h f g = absurd g
way-meet xs ys q value_role implied_role h f g = absurd g
way-meet xs ys q value_role header_role h f g = absurd g
way-meet xs ys q value_role array_role h f g = absurd g
way-meet xs ys q value_role continued_role h f g = absurd g

-- Mentions agree where what they say may meet at one path.
pub agree-by : {S : Type 0} (may : Role → Role → Bool) (P Q : Core → Type 0)
    → ((q : Path) (r s : Role) → P (q, r) → Q (q, s) → may r s ≡ true)
    → (ms ns : List (Mention S)) → AllByRecursion P (map core ms) → AllByRecursion Q (map core ns) → agree may ms ns ≡ true
agree-by may P Q meet [] ns h g = refl
agree-by {S} may P Q meet (m ∷ ms) ns h g = and_both _ (agree may ms ns) (each ns g) (agree-by may P Q meet ms ns h.1 g)
  where
    by_path : (n : Mention S) → Q (n.path, n.role) → (b : Bool) → same_path m.path n.path ≡ b → (not b || may m.role n.role) ≡ true
    by_path n q true e = meet m.path m.role n.role h.0 (subst (λ p. Q (p, n.role)) (sym (same_path-is m.path n.path e)) q)
    by_path n q false e = refl

    each : (ns : List (Mention S)) → AllByRecursion Q (map core ns) → list_all (λ n. not (same_path m.path n.path) || may m.role n.role) ns
        ≡ true
    each [] q = refl
    each (n ∷ ns) q =
        and_both (not (same_path m.path n.path) || may m.role n.role) (list_all (λ n. not (same_path m.path n.path)
        || may m.role n.role) ns)
        (by_path n q.0 (same_path m.path n.path) refl) (each ns q.1)

-- ---- all pairs

abbrev pair_names : Pairs → List (List Text)
pair_names no_pairs = []
pair_names (pair f v ps) = keys_of_segments f.path ∷ pair_names ps

all-agree : (start number : ℕ) (ps : Pairs) → AllPairs Parted (pair_names ps) → all_agree may_meet_inline (pair_mentions start ps) ≡ true
all-agree start number no_pairs h = refl
all-agree start number (pair f v ps) h =
    and_both (list_all (agree may_meet_inline (line_mentions (record { frame = f; value = v }) (start + length f.leading) [] f.path))
    (pair_mentions (start + length (frame_text f (value_text v)) + 1) ps)) _
    (each (start + length (frame_text f (value_text v)) + 1) (suc number) ps h.0)
    (all-agree (start + length (frame_text f (value_text v)) + 1) (suc number) ps h.1)
  where
    each : (i j : ℕ) (qs : Pairs) → AllByRecursion (Parted (keys_of_segments f.path)) (pair_names qs)
        → list_all (agree may_meet_inline (line_mentions (record { frame = f; value = v }) (start + length f.leading) [] f.path))
        (pair_mentions i qs) ≡ true
    each i j no_pairs g = refl
    each i j (pair k w qs) g =
        let ms = line_mentions (record { frame = f; value = v }) (start + length f.leading) [] f.path in
        let ns = line_mentions (record { frame = k; value = w }) (i + length k.leading) [] k.path in
        and_both (agree may_meet_inline ms ns) (list_all (agree may_meet_inline ms) (pair_mentions (i + length (frame_text k (value_text w))
        + 1) qs))
        (agree-by may_meet_inline (OnWay (map at_key (keys_of_segments f.path))) (OnWay (map at_key (keys_of_segments k.path)))
        (λ q r s a b. way-meet (keys_of_segments f.path) (keys_of_segments k.path) q r s g.0 a b) ms ns
        (subst (AllByRecursion (OnWay (map at_key (keys_of_segments f.path))))
        (sym (line-told (record { frame = f; value = v }) (start + length f.leading) [] f.path))
        (told-way [] (keys_of_segments f.path)))
        (subst (AllByRecursion (OnWay (map at_key (keys_of_segments k.path))))
        (sym (line-told (record { frame = k; value = w }) (i + length k.leading) [] k.path)) (told-way [] (keys_of_segments k.path))))
        (each (i + length (frame_text k (value_text w)) + 1) (suc j) qs g.1)

after-names : (t : Text) (ps : Pairs) → pair_names (add_after_pairs t ps) ≡ pair_names ps
after-names t no_pairs = refl
after-names t (pair f v no_pairs) = refl
after-names t (pair f v (pair k w ps)) = ap (λ nss. keys_of_segments f.path ∷ nss) (after-names t (pair k w ps))

-- the test of agreeing pairs looks at each value
looks : LooksAtEach has_agreeing_pairs elements_have_agreeing_pairs pairs_have_agreeing_pairs
looks =
    record {
      in_array = λ es comma t. refl;
      no_element = refl;
      each_element = λ a v es. refl;
      no_pair = refl;
      each_pair = λ f v ps. refl;
    }

module _ (mode : Mode) where
  -- ---- printed values

  lines-names : (ls : List Line) → pair_names (pairs_of_lines mode ls) ≡ map (λ l. names l.keys) ls
  lines-names [] = refl
  lines-names (l ∷ []) = ap (λ ns. ns ∷ []) (segments-names mode l.keys)
  lines-names (l ∷ m ∷ ls) = ap (λ ns. ns ∷ pair_names (pairs_of_lines mode (m ∷ ls))) (segments-names mode l.keys)
      ∙ ap (λ nss. names l.keys ∷ nss) (lines-names (m ∷ ls))

  close-pairs : (comma : Bool) (t : Text) (ps : Pairs) → AllPairs Parted (pair_names ps) → pairs_have_agreeing_pairs ps ≡ true
      → has_agreeing_pairs (close_inline comma t ps) ≡ true
  close-pairs comma t no_pairs h g = refl
  close-pairs true t (pair f v ps) h g = and_both _ (pairs_have_agreeing_pairs (pair f v ps)) (all-agree 0 0 (pair f v ps) h) g
  close-pairs false t (pair f v ps) h g =
      and_both _ (pairs_have_agreeing_pairs (add_after_pairs t (pair f v ps)))
      (all-agree 0 0 (add_after_pairs t (pair f v ps)) (subst (AllPairs Parted) (sym (after-names t (pair f v ps))) h))
      (after-pairs mode has_agreeing_pairs elements_have_agreeing_pairs pairs_have_agreeing_pairs looks t (pair f v ps) ∙ g)

  -- The pairs of each inline table in a printed value agree.
  pub value-agrees : (n : Node) → IsWellMade n → has_agreeing_pairs (value_of mode n) ≡ true
  value-agrees =
      value-passes mode has_agreeing_pairs elements_have_agreeing_pairs pairs_have_agreeing_pairs looks
      (λ s r d made. refl)
      (λ f ss made.
      close-pairs f.comma (shown_raw mode f.trailing) (pairs_of_lines mode (inside_lines mode ss []))
      (subst (AllPairs Parted) (sym (lines-names (inside_lines mode ss [])))
      (pairs-image (λ (l : Line). names l.keys) Parted (inside_lines mode ss []) (inside-parted mode ss [] made))))
      refl
