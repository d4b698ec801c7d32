-- The normal form of an accepted cut is settled, so it is its own normal form.
use Rattle.std.proofs.Common.{◌≡◌, refl, sym, ◌∙◌, ap, subst, Bool, true, false, List, [], ◌∷◌, Some, inl, inr}
use Rattle.std.specs.Prelude.{◌&&◌, ◌||◌, not, map, flat_map, option_map, unwrap_or, nat_le}
use Rattle.std.specs.List.{AllByRecursion, list_all}
use Rattle.toml_edit_model.specs.Mode.{Mode, shown_text}
use Rattle.toml_edit_model.specs.Text.{Text, same_text}
use Rattle.toml_edit_model.specs.Syntax.{Statement, key_line, header, Document, IsDocument, keeps_limits, is_short, depth, nesting_limit}
use Rattle.toml_edit_model.specs.Syntax.{has_short_keys, keeps_ranges}
use Rattle.toml_edit_model.specs.Paths.{Path, Mention, Source, Placed, placed, start_context}
use Rattle.toml_edit_model.specs.Accepted.{is_sound, is_accepted, has_agreeing_pairs}
use Rattle.toml_edit_model.specs.Normal.{is_line, line_before, ordered, opening_of, closing_of, kept_statement, shown_frame, normal_value}
use Rattle.toml_edit_model.specs.Normal.{normal_statement, normal_in}
use Rattle.toml_edit_laws.proofs.common.Tests.{and_left, and_right, and_both, same_text-refl}
use Rattle.toml_edit_laws.proofs.common.Members.{Among, all-among, among-each}
use Rattle.toml_edit_laws.proofs.normal_texts.SettledStays.{IsAny, any-statements}
use Rattle.toml_edit_laws.proofs.normal_texts.Runs.{Run, placed-run, with_end, line-ended, IsNormal, AreNormal}
use Rattle.toml_edit_laws.proofs.normal_texts.Lean.{no-return}
use Rattle.toml_edit_laws.proofs.normal_texts.Agreeing.{AgreesWith, from-right, all-ordered}
use Rattle.toml_edit_laws.proofs.normal_texts.NormalAccepted.{IsRightPlace, right-places, known, all_in, in_order, normal-accepted}
use Rattle.toml_edit_laws.proofs.normal_texts.LinePaths.{stands}
use Rattle.toml_edit_laws.proofs.normal_texts.LineOrder.{lines_ordered, ranked, sorted-anew, in-order}
use Rattle.toml_edit_laws.proofs.normal_texts.KeptAnew.{AreAnew, Precedes, IsSpaced, anew-all}
use Rattle.toml_edit_laws.proofs.normal_texts.SettledValues.{paths, place_of, sorted-map, same-segments, value-settled, lean-is}
use Rattle.toml_edit_laws.proofs.normal_texts.PlacedLines.{lined_at, block_at, base_at, mentions_at, told_at, keys_told, ordered-lines}
use Rattle.toml_edit_laws.proofs.normal_texts.PlacedLines.{line-test, text-at, spaced-at, stay-all}
use Rattle.toml_edit_laws.proofs.normal_texts.KeptHeaders.{kept-header}
use Rattle.toml_edit_laws.proofs.common.Cores.{Core, cores}
use Rattle.toml_edit_laws.proofs.common.Pairs.{AllPairs}
use Rattle.toml_edit_laws.proofs.mentions.Placed.{source-statement}
use Rattle.toml_edit_laws.proofs.mentions.Placed.{mention_lists}
use Rattle.toml_edit_laws.proofs.common.Each.{all-both, all-map}
use Rattle.toml_edit_laws.proofs.one_by_one.Together.{accepted-right}
use Rattle.toml_edit_model.specs.Order.{is_sorted_by}
use Rattle.toml_edit_model.specs.Kept.{kept_mention, kept_path}
use Rattle.toml_edit_model.specs.Settled.{own_path, same_segments, is_kept, is_shown_text, is_settled_end, is_shown_frame, is_settled_value}
use Rattle.toml_edit_model.specs.Settled.{is_settled_statement, has_ordered_lines, is_settled_in}

-- ---- lines in order, by their kinds and paths

abbrev Form : Type 0
Form = Bool × List Path

abbrev form : Placed → Form
form x = (lined_at x, told_at x)

abbrev form_test : List Form → Form → Form → Bool
form_test fs a b = not a.0 || (not b.0 || stands (place_of (map (λ f. f.1) fs)) a.1 b.1)

forms-told : (xs : List Placed) → map (λ (f : Form). f.1) (map form xs) ≡ map told_at xs
forms-told [] = refl
forms-told (x ∷ xs) = ap (λ ps. told_at x ∷ ps) (forms-told xs)

lines-by-form : (xs : List Placed) → has_ordered_lines (map (λ s. s.mentions) xs) xs ≡ is_sorted_by (form_test (map form xs)) (map form xs)
lines-by-form xs =
    sorted-map form (λ s t. not (is_line s.source.statement) || line_before (map (λ s. s.mentions) xs) s t) (form_test (map form xs))
    (λ x y.
    ap (λ b. not (lined_at x) || b) (line-test (map (λ s. s.mentions) xs) xs refl x y)
    ∙ ap (λ pss. not (lined_at x) || (not (lined_at y) || stands (place_of pss) (told_at x) (told_at y))) (sym (forms-told xs)))
    xs

core-paths : (xs : List (Mention Source)) → paths xs ≡ map (λ (c : Core). c.0) (cores xs)
core-paths [] = refl
core-paths (x ∷ xs) = ap (λ ps. x.path ∷ ps) (core-paths xs)

abbrev Inner : Type 0
Inner = Text × Text

-- the white space inside the brackets
abbrev inner : Statement → Inner
inner s = (opening_of s, closing_of s)

kept-is : (ms : List (Mention Source)) (p : Path) (k : Mention Source) (s : Statement) → kept_mention ms p ≡ Some k → kept_statement ms p s
    ≡ k.source.statement
kept-is ms p k s e = ap (λ o. unwrap_or (option_map (λ (m : Mention Source). m.source.statement) o) s) e

inner-ended : (end : Text) (s : Statement) → inner (with_end end s) ≡ inner s
inner-ended end (key_line f v e) = refl
inner-ended end (header h e) = refl

-- what is known of the statements of an accepted cut
pub record ArePlaced (xs : List Placed) : Type 0 where
  pub run : Run 0 [] [] xs
  pub right : AllByRecursion IsRightPlace xs
  pub agree : AllPairs AgreesWith xs

pub are-placed : (d : Document) → IsDocument d → is_accepted d ≡ true → ArePlaced (placed d)
are-placed d h g =
    let parts = from-right [] (placed d) (accepted-right d g) in
    record {
      run = placed-run (start_context d) d.statements;
      right = right-places (start_context d) d.statements (any-statements d.final d.statements h.0) parts.0;
      agree = parts.2;
    }

module _ (mode : Mode) where
  normal-line : (ms : List (Mention Source)) (at : Placed) (s : Statement) → is_line (normal_statement mode ms at s) ≡ is_line s
  normal-line ms at (key_line f v end) = refl
  normal-line ms at (header h end) = refl

  normal-form : (ms : List (Mention Source)) (x y : Placed) → IsNormal mode ms x y → form y ≡ form x
  normal-form ms x y h =
      ap (λ b. (b, told_at y)) (ap is_line h.statement ∙ line-ended h.end (normal_statement mode ms x x.source.statement)
      ∙ normal-line ms x x.source.statement)
      ∙ ap (λ ps. (lined_at x, ps)) (core-paths y.mentions ∙ ap (map (λ (c : Core). c.0)) h.cores ∙ sym (core-paths x.mentions))

  normal-forms : (ms : List (Mention Source)) (xs ys : List Placed) → AreNormal mode ms xs ys → map form ys ≡ map form xs
  normal-forms ms [] [] h = refl
  normal-forms ms [] (y ∷ ys) h = absurd h
  normal-forms ms (x ∷ xs) [] h = absurd h
  normal-forms ms (x ∷ xs) (y ∷ ys) h =
      ap (λ f. f ∷ map form ys) (normal-form ms x y h.0) ∙ ap (λ fs. form x ∷ fs) (normal-forms ms xs ys h.1)

  -- ---- spelled anew

  normal-anew : (ms : List (Mention Source)) (xs ys : List Placed) → AreNormal mode ms xs ys
      → AreAnew ms mentions_at xs (map mentions_at ys)
  normal-anew ms [] [] h = tt
  normal-anew ms [] (y ∷ ys) h = absurd h
  normal-anew ms (x ∷ xs) [] h = absurd h
  normal-anew ms (x ∷ xs) (y ∷ ys) h = ((h.0.cores, h.0.segments), normal-anew ms xs ys h.1)

  -- ---- headers

  normal-from : (ms : List (Mention Source)) (xs ys : List Placed) (y : Placed) → AreNormal mode ms xs ys → Among y ys → (x : Placed)
      × Among x xs × IsNormal mode ms x y
  normal-from ms [] [] y h a = elim a [ ]
  normal-from ms [] (z ∷ ys) y h a = absurd h
  normal-from ms (x ∷ xs) [] y h a = elim a [ ]
  normal-from ms (x ∷ xs) (z ∷ ys) y h (inl e) = (x, inl refl, subst (IsNormal mode ms x) (sym e) h.0)
  normal-from ms (x ∷ xs) (z ∷ ys) y h (inr a) = (let rest = normal-from ms xs ys y h.1 a in (rest.0, inr rest.1, rest.2))

  normal-inner : (ms : List (Mention Source)) (x : Placed) (k : Mention Source) → IsRightPlace x → lined_at x ≡ false
      → kept_mention ms x.source.path ≡ Some k
      → inner (normal_statement mode ms x x.source.statement) ≡ inner k.source.statement
  normal-inner ms x k (c, s, is, a, g) l e =
      ap (λ t. inner (normal_statement mode ms x t)) st ∙ by_kind s (sym (ap is_line st) ∙ l)
    where
      st : x.source.statement ≡ s
      st = ap (λ (y : Placed). y.source.statement) is ∙ source-statement c s

      by_kind : (t : Statement) → is_line t ≡ false → inner (normal_statement mode ms x t) ≡ inner k.source.statement
      by_kind (key_line f v end) h = absurd cc
      by_kind (header i end) h = ap inner (kept-is ms x.source.path k (header i end) e)

  -- ---- statements

  settled-one : (ms new : List (Mention Source)) (x y : Placed) → IsRightPlace x → IsNormal mode ms x y → own_path y.mentions
      ≡ kept_path new y.mentions
      → (lined_at x ≡ false → (t : Statement) → inner (kept_statement new y.source.path t)
      ≡ inner (kept_statement ms x.source.path x.source.statement))
      → is_settled_statement mode new y y.source.statement ≡ true
  settled-one ms new x y (c, s, is, a, g) h kept same =
      ap (is_settled_statement mode new y) (h.statement ∙ ap (λ t. with_end h.end (normal_statement mode ms x t)) st)
      ∙ by_kind s a g (λ l t. same (ap is_line st ∙ l) t ∙ ap (λ u. inner (kept_statement ms x.source.path u)) st)
    where
      st : x.source.statement ≡ s
      st = ap (λ (z : Placed). z.source.statement) is ∙ source-statement c s

      is_kept_here : is_kept new y.mentions ≡ true
      is_kept_here = ap (same_segments (own_path y.mentions)) (sym kept) ∙ same-segments (own_path y.mentions)

      by_kind : (t : Statement) → IsAny t → is_sound t ≡ true
          → (is_line t ≡ false → (u : Statement) → inner (kept_statement new y.source.path u) ≡ inner (kept_statement ms x.source.path t))
          → is_settled_statement mode new y (with_end h.end (normal_statement mode ms x t)) ≡ true
      by_kind (key_line f v end) i e f_inner =
          let parts = and_left (keeps_limits (key_line f v end) && keeps_ranges v) (has_agreeing_pairs v) e in
          let agrees = and_right (keeps_limits (key_line f v end) && keeps_ranges v) (has_agreeing_pairs v) e in
          let limits = and_left (is_short f.path && (nat_le (depth v) nesting_limit && has_short_keys v)) (keeps_ranges v) parts in
          let ranges = and_right (is_short f.path && (nat_le (depth v) nesting_limit && has_short_keys v)) (keeps_ranges v) parts in
          let deep = and_right (is_short f.path) (nat_le (depth v) nesting_limit && has_short_keys v) limits in
          and_both (is_shown_frame mode (shown_frame mode f) && is_settled_value mode (normal_value mode v)) (is_kept new y.mentions
          && is_settled_end mode h.end)
          (and_both (is_shown_frame mode (shown_frame mode f)) (is_settled_value mode (normal_value mode v)) (lean-is mode f)
          (value-settled mode v i.1 (and_right (nat_le (depth v) nesting_limit) (has_short_keys v) deep) ranges agrees))
          (and_both (is_kept new y.mentions) (is_settled_end mode h.end) is_kept_here h.settled)
      by_kind (header i end) b e f_inner =
          let to : Statement = with_end h.end (normal_statement mode ms x (header i end)) in
          let from : Statement = kept_statement ms x.source.path (header i end) in
          let own : Statement = kept_statement new y.source.path to in
          let inside : inner own ≡ inner from = f_inner refl to in
          let one : opening_of own ≡ opening_of from = ap (λ (t : Inner). t.0) inside in
          let other : closing_of own ≡ closing_of from = ap (λ (t : Inner). t.1) inside in
          and_both (is_shown_text mode (shown_text mode i.leading)
          && (same_text (opening_of from) (opening_of own) && same_text (closing_of from) (closing_of own)))
          (is_kept new y.mentions && is_settled_end mode h.end)
          (and_both (is_shown_text mode (shown_text mode i.leading)) (same_text (opening_of from) (opening_of own)
          && same_text (closing_of from) (closing_of own)) (no-return mode i.leading)
          (and_both (same_text (opening_of from) (opening_of own)) (same_text (closing_of from) (closing_of own))
          (ap (same_text (opening_of from)) one ∙ same_text-refl (opening_of from)) (ap (same_text (closing_of from)) other
          ∙ same_text-refl (closing_of from))))
          (and_both (is_kept new y.mentions) (is_settled_end mode h.end) is_kept_here h.settled)

  -- the kept statements of two headers' paths have the same white space
  abbrev HasSameInner : List (Mention Source) → List (Mention Source) → List Placed → Placed → Type 0
  HasSameInner ms new places y =
      (x : Placed) → IsNormal mode ms x y → IsRightPlace x → Among x places → lined_at x ≡ false
      → (t : Statement) → inner (kept_statement new y.source.path t) ≡ inner (kept_statement ms x.source.path x.source.statement)

  settled-all : (ms new : List (Mention Source)) (places xs ys : List Placed) → AllByRecursion (λ x. IsRightPlace x × Among x places) xs
      → AreNormal mode ms xs ys
      → AllByRecursion (λ n. own_path n ≡ kept_path new n) (map mentions_at ys) → AllByRecursion (HasSameInner ms new places) ys
      → list_all (λ s. is_settled_statement mode new s s.source.statement) ys ≡ true
  settled-all ms new places [] [] r h k f = refl
  settled-all ms new places [] (y ∷ ys) r h k f = absurd h
  settled-all ms new places (x ∷ xs) [] r h k f = absurd h
  settled-all ms new places (x ∷ xs) (y ∷ ys) r h k f =
      and_both (is_settled_statement mode new y y.source.statement) (list_all (λ s. is_settled_statement mode new s s.source.statement) ys)
      (settled-one ms new x y r.0.0 h.0 k.0 (f.0 x h.0 r.0.0 r.0.1)) (settled-all ms new places xs ys r.1 h.1 k.1 f.1)

  -- ---- documents

  same-inner : (ms new : List (Mention Source)) (places zs ys : List Placed) → ms ≡ flat_map (λ m. m) (map (λ s. s.mentions) places) → new
      ≡ flat_map (λ m. m) (map (λ s. s.mentions) ys)
      → ArePlaced places → ArePlaced ys → AllByRecursion IsRightPlace zs → AreNormal mode ms zs ys → (y : Placed) → Among y ys
      → HasSameInner ms new places y
  same-inner ms new places zs ys e f old are right normals y a x n r b l t =
      let header_y : lined_at y ≡ false = ap (λ (o : Form). o.0) (normal-form ms x y n) ∙ l in
      let kept_y = kept-header ys are.run are.right are.agree y a header_y in
      let v : Placed = kept_y.2.0 in
      let from = normal-from ms zs ys v normals kept_y.2.1 in
      let u : Placed = from.0 in
      let kept_x = kept-header places old.run old.right old.agree x b l in
      let k : Mention Source = kept_x.0 in
      let path_is : u.source.path ≡ x.source.path = sym from.2.path ∙ kept_y.2.4 ∙ n.path in
      let header_u : lined_at u ≡ false = sym (ap (λ (o : Form). o.0) (normal-form ms u v from.2)) ∙ kept_y.2.3 in
      let old_kept : kept_mention ms x.source.path ≡ Some k = ap (λ m. kept_mention m x.source.path) e ∙ kept_x.1 in
      ap inner (kept-is new y.source.path kept_y.0 t (ap (λ m. kept_mention m y.source.path) f ∙ kept_y.1))
      ∙ ap (λ (o : Source). inner o.statement) kept_y.2.2
      ∙ ap inner from.2.statement
      ∙ inner-ended from.2.end (normal_statement mode ms u u.source.statement)
      ∙ normal-inner ms u k (all-among IsRightPlace u zs right from.1) header_u (ap (kept_mention ms) path_is ∙ old_kept)
      ∙ sym (ap inner (kept-is ms x.source.path k x.source.statement old_kept))

  places-settled : (mss : List (List (Mention Source))) (places zs ys : List Placed) → mss ≡ map (λ s. s.mentions) places → zs
      ≡ ordered mss places → ArePlaced places → ArePlaced ys
      → AllByRecursion IsRightPlace zs → AreNormal mode (flat_map (λ m. m) mss) zs ys
      → (has_ordered_lines (map (λ s. s.mentions) ys) ys ≡ true)
      × (list_all (λ s. is_settled_statement mode (flat_map (λ m. m) (map (λ s. s.mentions) ys)) s s.source.statement) ys ≡ true)
  places-settled mss places zs ys e z old are right normals =
      let test : Placed → Placed → Bool = line_before mss in
      let xs : List Placed = lines_ordered lined_at test places in
      let ms : List (Mention Source) = flat_map (λ m. m) mss in
      let new : List (Mention Source) = flat_map (λ m. m) (map (λ s. s.mentions) ys) in
      let is : zs ≡ xs = z ∙ ordered-lines mss places in
      let text = text-at places old.run old.right old.agree in
      let sorted : has_ordered_lines (map (λ s. s.mentions) xs) xs ≡ true =
      sorted-anew lined_at block_at told_at base_at keys_told test (line_before (map (λ s. s.mentions) xs)) places (line-test mss places e)
      (line-test (map (λ s. s.mentions) xs) xs refl) text in
      let first : has_ordered_lines (map (λ s. s.mentions) ys) ys ≡ true =
      lines-by-form ys ∙ ap (λ fs. is_sorted_by (form_test fs) fs) (normal-forms ms zs ys normals ∙ ap (map form) is)
      ∙ sym (lines-by-form xs) ∙ sorted in
      let precede : AllPairs (Precedes lined_at block_at base_at mentions_at (ranked lined_at block_at told_at base_at keys_told places))
      xs =
      in-order lined_at block_at told_at base_at keys_told test places (line-test mss places e) text in
      let kept = anew-all lined_at block_at base_at mentions_at (ranked lined_at block_at told_at base_at keys_told places) test places
      (stay-all places old.right text old.agree) (all-map IsRightPlace (IsSpaced lined_at block_at base_at mentions_at) places spaced-at
      old.right) precede (map mentions_at ys)
      (subst (λ us. AreAnew (flat_map (λ m. m) us) mentions_at xs (map mentions_at ys)) e
      (subst (λ us. AreAnew ms mentions_at us (map mentions_at ys)) is (normal-anew ms zs ys normals))) in
      let among : AllByRecursion (λ x. Among x places) zs =
      subst (AllByRecursion (λ x. Among x places)) (sym z) (all-ordered (λ x. Among x places) mss places (among-each places)) in (
        first,
        settled-all ms new places zs ys (all-both IsRightPlace (λ x. Among x places) zs right among) normals kept
            (all-map (λ y. Among y ys) (HasSameInner ms new places) ys
            (same-inner ms new places zs ys (ap (flat_map (λ m. m)) e) refl old are right normals) (among-each ys)),
      )

  normal-ends : (d : Document) → (not (normal_in mode d).has_mark && is_shown_text mode (normal_in mode d).final) ≡ true
  normal-ends d = no-return mode d.final

  -- The normal form of an accepted cut is settled.
  pub normal-settled : (d : Document) → IsDocument d → is_accepted d ≡ true → is_settled_in mode (normal_in mode d) ≡ true
  normal-settled d h g =
      let n : Document = normal_in mode d in
      let k = known mode d h g in
      let accepted = normal-accepted mode d h g in
      let both = places-settled (mention_lists (placed d)) (placed d) (in_order d) (placed n) refl refl (are-placed d h g)
      (are-placed n accepted.0 accepted.1) k.right k.normal_places in
      let lines : Bool = has_ordered_lines (mention_lists (placed n)) (placed n) in
      let each : Bool = list_all (λ s. is_settled_statement mode (all_in n) s s.source.statement) (placed n) in
      and_both (not n.has_mark && is_shown_text mode n.final) (lines && each) (normal-ends d) (and_both lines each both.0 both.1)
