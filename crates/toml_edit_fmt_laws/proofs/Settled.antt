-- A formatted document is settled where the document is.
use Rattle.std.proofs.Common.{◌≡◌, refl, sym, ap, ◌∙◌, ℕ, suc, Bool, true, false, List, [], ◌∷◌, ◌++◌, length, Option, Some, None}
use Rattle.std.specs.Prelude.{◌&&◌, ◌||◌, ◌==◌, ◌+◌, not, if◌then◌else◌, flat_map, map, option_map, unwrap_or}
use Rattle.std.specs.List.{list_all}
use Rattle.std.proofs.lemmas.List.{map-append}
use Rattle.std.proofs.lemmas.Simd.{map-map}
use Rattle.toml_edit_model.specs.Kept.{kept_mention}
use Rattle.toml_edit_model.specs.Mode.{Mode, plain, exact}
use Rattle.toml_edit_model.specs.Normal.{pair_before, is_line, line_before, opening_of, closing_of, kept_statement}
use Rattle.toml_edit_model.specs.Order.{is_sorted_by}
use Rattle.toml_edit_model.specs.Paths.{Path, Mention, Source, PairSource, Placed, Context, start_context, context_after, placed_from, mentions_of}
use Rattle.toml_edit_model.specs.Paths.{to_key, to_element, next_start, in_last, elements_at, passing_role, source_of, pair_mentions, line_mentions, header_mentions, header_path, header_role_of, path_start}
use Rattle.toml_edit_model.specs.Print.{one_space}
use Rattle.toml_edit_model.specs.Settled.{is_kept, are_settled_pairs, has_ordered_lines, is_shown_text, is_settled_end, is_shown_frame}
use Rattle.toml_edit_model.specs.Settled.{is_settled_value, are_settled_elements, have_settled_values, is_settled_statement, is_settled_in}
use Rattle.toml_edit_model.specs.Syntax.{Segment, Frame, Header, Value, scalar, array, inline_table, Elements, no_elements, element, Pairs, no_pairs, pair}
use Rattle.toml_edit_model.specs.Syntax.{Statement, key_line, header, Document, has_elements, has_pairs, frame_text, value_text}
use Rattle.toml_edit_model.specs.Text.{Text, same_text}
use Rattle.toml_edit_laws.proofs.common.Cores.{cores}
use Rattle.toml_edit_laws.proofs.common.Tests.{and_left, and_right, and_both, not-true, same_text-is, same_text-refl}
use Rattle.toml_edit_laws.proofs.mentions.Placed.{placed_at, source-statement}
use Rattle.toml_edit_laws.proofs.normal_texts.LinePaths.{stands}
use Rattle.toml_edit_model.specs.Roles.{Role, dotted_role, array_role, header_role}
use Rattle.toml_edit_laws.proofs.normal_texts.SettledValues.{paths, place_of, rank-is, stands-is, sorted-map}
use Rattle.toml_edit_fmt_laws.specs.Promises.{keys_laid, KeysAreLaid, StaysSettled}
use Rattle.toml_edit_fmt_laws.specs.Rules.{Rules, line_depth, header_depth}
use Rattle.toml_edit_fmt_laws.specs.Laying.{leading, header_leading, line_rest, final_text, usual_pad}
use Rattle.toml_edit_fmt_laws.specs.Formatted.{Layout, array_layout, inline_layout, before_part, after_part, Inside, inside, in_array, in_inline, inner_depth, inner_room}
use Rattle.toml_edit_fmt_laws.specs.Formatted.{last_after, last_trailing, last_pad, elements_count, pairs_count, laid_segment, laid_path, laid_frame, used_before}
use Rattle.toml_edit_fmt_laws.specs.Formatted.{laid_value, laid_elements, laid_pairs, State, start, stays, reached, leading_of, after, laid_statement, lay}
use Rattle.toml_edit_fmt_laws.specs.Formatted.{laid_statements, state_after, laid_final, laid_document}
use Rattle.toml_edit_fmt_laws.proofs.Bones.{skeleton, pairs-bones, statement-bones, statements-bones}
use Rattle.toml_edit_fmt_laws.proofs.Means.{SameContext, context-bones, path-bones-at}
use Rattle.toml_edit_fmt_laws.proofs.Accepts.{pair-cores, statement-cores, all-cores}
use Rattle.toml_edit_fmt_laws.proofs.Shown.{NoReturn, none-append, if-none, leading-none, header-none, final-none-return, line-rest-none}
use Rattle.toml_edit_fmt_laws.proofs.Shown.{before-none, after-none-return, inside-none}
use Rattle.toml_edit_fmt_laws.proofs.Tags.{Tag, tag, tags, on_tag, kept_at, kept-tags, kept-on, unwrap-on, segs, kept-laid, line-segs, header-segs}

-- ---- shown texts

shown-none : (m : Mode) (u : Text) → (m ≡ plain → NoReturn u) → is_shown_text m u ≡ true
shown-none exact u f = refl
shown-none plain u f = ap not (f refl)

shown-by : (m : Mode) (t u : Text) → (m ≡ plain → NoReturn t → NoReturn u) → is_shown_text m t ≡ true → is_shown_text m u ≡ true
shown-by exact t u f h = refl
shown-by plain t u f h = ap not (f refl (not-true _ h))

shown-two : (m : Mode) (s t u : Text) → (m ≡ plain → NoReturn s → NoReturn t → NoReturn u) → is_shown_text m s ≡ true
    → is_shown_text m t ≡ true → is_shown_text m u ≡ true
shown-two exact s t u f h g = refl
shown-two plain s t u f h g = ap not (f refl (not-true _ h) (not-true _ g))

-- ---- order by paths

paths-cores : {S : Type 0} (ms : List (Mention S)) → paths ms ≡ map (λ c. c.0) (cores ms)
paths-cores [] = refl
paths-cores (m ∷ ms) = ap (λ ps. m.path ∷ ps) (paths-cores ms)

all-paths : {S : Type 0} (mss : List (List (Mention S))) → map paths mss ≡ map (map (λ c. c.0)) (map cores mss)
all-paths [] = refl
all-paths (ms ∷ mss) = ap (λ ps. ps ∷ map paths mss) (paths-cores ms) ∙ ap (λ pss. map (λ c. c.0) (cores ms) ∷ pss) (all-paths mss)

same-paths : {S T : Type 0} (mss : List (List (Mention S))) (nss : List (List (Mention T))) → map cores nss ≡ map cores mss
    → map paths nss ≡ map paths mss
same-paths mss nss e = all-paths nss ∙ ap (map (map (λ c. c.0))) e ∙ sym (all-paths mss)

pair-order : (mss nss : List (List (Mention PairSource))) → map paths nss ≡ map paths mss
    → is_sorted_by (pair_before nss) nss ≡ is_sorted_by (pair_before mss) mss
pair-order mss nss e =
    sorted-map paths (pair_before nss) (stands (place_of (map paths nss))) (λ x y. stands-is _ (place_of (map paths nss)) (rank-is nss) x y) nss
    ∙ ap (λ pss. is_sorted_by (stands (place_of pss)) pss) e
    ∙ sym (sorted-map paths (pair_before mss) (stands (place_of (map paths mss)))
    (λ x y. stands-is _ (place_of (map paths mss)) (rank-is mss) x y) mss)

abbrev seat : Placed → Bool × List Path
seat s = (is_line s.source.statement, paths s.mentions)

abbrev seated : List (List Path) → Bool × List Path → Bool × List Path → Bool
seated pss a b = not a.0 || (not b.0 || stands (place_of pss) a.1 b.1)

line-order : (mss : List (List (Mention Source))) (xs : List Placed)
    → has_ordered_lines mss xs ≡ is_sorted_by (seated (map paths mss)) (map seat xs)
line-order mss xs =
    sorted-map seat (λ s t. not (is_line s.source.statement) || line_before mss s t) (seated (map paths mss))
    (λ x y. ap (λ b. not (is_line x.source.statement) || (not (is_line y.source.statement) || b))
    (stands-is _ (place_of (map paths mss)) (rank-is mss) x.mentions y.mentions)) xs

segs-append : {S : Type 0} (ms ns : List (Mention S)) → segs (ms ++ ns) ≡ segs ms ++ segs ns
segs-append ms ns = map-append (tag (λ m. m.segment)) ms ns

abbrev path_of : Statement → List Segment
path_of (key_line f v end) = f.path
path_of (header x end) = x.path

abbrev role_of : Bool → Role
role_of b = if b then array_role else header_role

module _ (mode : Mode) (r : Rules) (newlines : mode ≡ plain → r.returns ≡ false) where
  -- ---- parts

  last-shown : (es : Elements) → are_settled_elements mode es ≡ true → is_shown_text mode (last_after es) ≡ true
  last-shown no_elements h = shown-none mode [] (λ e. refl)
  last-shown (element a v no_elements) h =
      and_right (is_shown_text mode a.before) (is_shown_text mode a.after) (and_left _ (is_settled_value mode v && true) h)
  last-shown (element a v (element b w es)) h =
      last-shown (element b w es)
      (and_right (is_settled_value mode v) _ (and_right (is_shown_text mode a.before && is_shown_text mode a.after) _ h))

  last-pair-shown : (ps : Pairs) → have_settled_values mode ps ≡ true → is_shown_text mode (last_trailing ps) ≡ true
  last-pair-shown no_pairs h = shown-none mode [] (λ e. refl)
  last-pair-shown (pair f v no_pairs) h =
      and_right (is_shown_text mode f.leading) (is_shown_text mode f.trailing) (and_left _ (is_settled_value mode v && true) h)
  last-pair-shown (pair f v (pair g w ps)) h =
      last-pair-shown (pair g w ps) (and_right (is_settled_value mode v) _ (and_right (is_shown_frame mode f) _ h))

  -- the ends of what is between brackets
  record InsideShown (x : Inside) : Type 0 where
    edge : NoReturn x.edge
    last : is_shown_text mode x.last ≡ true
    close : is_shown_text mode x.close ≡ true

  inside-shown : (l : Layout) (p : Path) (depth : ℕ) (has space : Bool) (n : ℕ) (comma : Bool) (last t : Text)
      → is_shown_text mode last ≡ true → is_shown_text mode t ≡ true → InsideShown (inside r l p depth has space n comma last t)
  inside-shown l p depth has space n comma last t v h =
      record {
        edge = if-none (has && space) one_space [] refl refl;
        last = shown-two mode last t _ (λ e f g. (inside-none r (newlines e) l p depth has space n comma last t f g).last) v h;
        close = shown-two mode last t _ (λ e f g. (inside-none r (newlines e) l p depth has space n comma last t f g).close) v h;
      }

  before-shown : (x : Inside) (n : ℕ) (first : Bool) (t : Text) → InsideShown x → is_shown_text mode t ≡ true
      → is_shown_text mode (before_part r x.layout n first x.depth x.edge t) ≡ true
  before-shown x n first t s h = shown-by mode t _ (λ e g. before-none r (newlines e) x.layout n first x.depth x.edge t s.edge g) h

  end-shown : (x : Inside) (has : Bool) (t : Text) → InsideShown x → is_shown_text mode t ≡ true
      → is_shown_text mode (after_part r x.layout (x.had_comma || has) x.depth t ++ (if has then [] else x.last)) ≡ true
  end-shown x has t s h =
      shown-two mode x.last t _
      (λ e f g. none-append (after_part r x.layout (x.had_comma || has) x.depth t) (if has then [] else x.last)
      (after-none-return r (newlines e) x.layout (x.had_comma || has) x.depth t g) (if-none has [] x.last refl f))
      s.last h

  module _ (pad : Path → ℕ) where
    -- ---- pairs in order, with kept keys

    abbrev frame_in : Inside → ℕ → ℕ → Frame → Pairs → Frame
    frame_in x i k f ps =
        laid_frame r (before_part r x.layout k (i == 0) x.depth x.edge f.leading)
        (after_part r x.layout (x.had_comma || has_pairs ps) x.depth f.trailing ++ (if has_pairs ps then [] else x.last)) f

    pairs-flat : (x : Inside) (i k m n : ℕ) (ps : Pairs)
        → segs (flat_map (λ ms. ms) (pair_mentions m (laid_pairs r pad x i k ps)))
        ≡ map (on_tag (laid_segment r)) (segs (flat_map (λ ms. ms) (pair_mentions n ps)))
    pairs-flat x i k m n no_pairs = refl
    pairs-flat x i k m n (pair f v ps) =
        let g = frame_in x i k f ps in
        let w = laid_value r pad (to_element x.path i) (inner_depth x.layout x.depth) None v in
        let next = laid_pairs r pad x (suc i) (pad (to_element x.path i)) ps in
        let here = line_mentions (record { frame = f; value = v }) (n + length f.leading) [] f.path in
        let there = line_mentions (record { frame = g; value = w }) (m + length g.leading) [] (laid_path r f.path) in
        let more = pair_mentions (n + length (frame_text f (value_text v)) + 1) ps in
        let others = pair_mentions (m + length (frame_text g (value_text w)) + 1) next in
        segs-append there (flat_map (λ ms. ms) others)
        ∙ ap (λ xs. xs ++ segs (flat_map (λ ms. ms) others))
        (line-segs r (record { frame = f; value = v }) (record { frame = g; value = w }) (n + length f.leading) (m + length g.leading) [] f.path)
        ∙ ap (λ xs. map (on_tag (laid_segment r)) (segs here) ++ xs)
        (pairs-flat x (suc i) (pad (to_element x.path i)) (m + length (frame_text g (value_text w)) + 1) (n + length (frame_text f (value_text v)) + 1) ps)
        ∙ sym (ap (map (on_tag (laid_segment r))) (segs-append here (flat_map (λ ms. ms) more))
        ∙ map-append (on_tag (laid_segment r)) (segs here) (segs (flat_map (λ ms. ms) more)))

    pairs-kept : (ms ns : List (Mention PairSource)) → segs ns ≡ map (on_tag (laid_segment r)) (segs ms)
        → (x : Inside) (i k m n : ℕ) (ps : Pairs) → list_all (is_kept ms) (pair_mentions n ps) ≡ true
        → list_all (is_kept ns) (pair_mentions m (laid_pairs r pad x i k ps)) ≡ true
    pairs-kept ms ns e x i k m n no_pairs h = refl
    pairs-kept ms ns e x i k m n (pair f v ps) h =
        let g = frame_in x i k f ps in
        let w = laid_value r pad (to_element x.path i) (inner_depth x.layout x.depth) None v in
        let here = line_mentions (record { frame = f; value = v }) (n + length f.leading) [] f.path in
        let there = line_mentions (record { frame = g; value = w }) (m + length g.leading) [] (laid_path r f.path) in
        and_both (is_kept ns there) _
        (kept-laid r ms here ns there e
        (line-segs r (record { frame = f; value = v }) (record { frame = g; value = w }) (n + length f.leading) (m + length g.leading) [] f.path)
        (and_left (is_kept ms here) _ h))
        (pairs-kept ms ns e x (suc i) (pad (to_element x.path i)) (m + length (frame_text g (value_text w)) + 1)
        (n + length (frame_text f (value_text v)) + 1) ps (and_right (is_kept ms here) _ h))

    pairs-settled-order : (x : Inside) (k : ℕ) (ps : Pairs) → are_settled_pairs (pair_mentions 0 ps) ≡ true
        → are_settled_pairs (pair_mentions 0 (laid_pairs r pad x 0 k ps)) ≡ true
    pairs-settled-order x k ps h =
        let qs = laid_pairs r pad x 0 k ps in
        let mss = pair_mentions 0 ps in
        let nss = pair_mentions 0 qs in
        let same = sym (pair-cores 0 0 qs) ∙ ap (λ os. map cores (pair_mentions 0 os)) (pairs-bones r pad x 0 k ps) ∙ pair-cores 0 0 ps in
        and_both (is_sorted_by (pair_before nss) nss) _
        (pair-order mss nss (same-paths mss nss same) ∙ and_left (is_sorted_by (pair_before mss) mss) _ h)
        (pairs-kept (flat_map (λ ms. ms) mss) (flat_map (λ ms. ms) nss) (pairs-flat x 0 k 0 0 ps) x 0 k 0 0 ps
        (and_right (is_sorted_by (pair_before mss) mss) _ h))

    -- ---- values

    mutual
      value-settled : (p : Path) (depth : ℕ) (room : Option ℕ) (v : Value) → is_settled_value mode v ≡ true
          → is_settled_value mode (laid_value r pad p depth room v) ≡ true
      value-settled p depth room (scalar s t) h = refl
      value-settled p depth room (array es comma t) h =
          let settled = and_right (is_shown_text mode t) (are_settled_elements mode es) h in
          let s = inside-shown (array_layout r depth room es comma t) p depth (has_elements es) r.bracket_space
          (last_pad r pad p (elements_count es)) comma (last_after es) t (last-shown es settled)
          (and_left (is_shown_text mode t) (are_settled_elements mode es) h) in
          and_both _ _ s.close (elements-settled (in_array r pad p depth room es comma t) 0 (usual_pad r.comments) es s settled)
      value-settled p depth room (inline_table ps comma t) h =
          let first = is_shown_text mode t && are_settled_pairs (pair_mentions 0 ps) in
          let both = and_left first (have_settled_values mode ps) h in
          let settled = and_right first (have_settled_values mode ps) h in
          let s = inside-shown (inline_layout r ps t) p depth (has_pairs ps) r.brace_space
          (last_pad r pad p (pairs_count ps)) comma (last_trailing ps) t (last-pair-shown ps settled)
          (and_left (is_shown_text mode t) (are_settled_pairs (pair_mentions 0 ps)) both) in
          and_both _ _
          (and_both _ _ s.close
          (pairs-settled-order (in_inline r pad p depth ps comma t) (usual_pad r.comments) ps
          (and_right (is_shown_text mode t) (are_settled_pairs (pair_mentions 0 ps)) both)))
          (pairs-settled (in_inline r pad p depth ps comma t) 0 (usual_pad r.comments) ps s settled)

      elements-settled : (x : Inside) (i n : ℕ) (es : Elements) → InsideShown x → are_settled_elements mode es ≡ true
          → are_settled_elements mode (laid_elements r pad x i n es) ≡ true
      elements-settled x i n no_elements s h = refl
      elements-settled x i n (element a v es) s h =
          let around = is_shown_text mode a.before && is_shown_text mode a.after in
          let both = and_left around (is_settled_value mode v && are_settled_elements mode es) h in
          let rest = and_right around (is_settled_value mode v && are_settled_elements mode es) h in
          and_both _ _
          (and_both _ _
          (before-shown x n (i == 0) a.before s (and_left (is_shown_text mode a.before) (is_shown_text mode a.after) both))
          (end-shown x (has_elements es) a.after s (and_right (is_shown_text mode a.before) (is_shown_text mode a.after) both)))
          (and_both _ _
          (value-settled (to_element x.path i) (inner_depth x.layout x.depth) (inner_room r x.layout x.depth) v
          (and_left (is_settled_value mode v) (are_settled_elements mode es) rest))
          (elements-settled x (suc i) (pad (to_element x.path i)) es s (and_right (is_settled_value mode v) (are_settled_elements mode es) rest)))

      pairs-settled : (x : Inside) (i n : ℕ) (ps : Pairs) → InsideShown x → have_settled_values mode ps ≡ true
          → have_settled_values mode (laid_pairs r pad x i n ps) ≡ true
      pairs-settled x i n no_pairs s h = refl
      pairs-settled x i n (pair f v ps) s h =
          let both = and_left (is_shown_frame mode f) (is_settled_value mode v && have_settled_values mode ps) h in
          let rest = and_right (is_shown_frame mode f) (is_settled_value mode v && have_settled_values mode ps) h in
          and_both _ _
          (and_both _ _
          (before-shown x n (i == 0) f.leading s (and_left (is_shown_text mode f.leading) (is_shown_text mode f.trailing) both))
          (end-shown x (has_pairs ps) f.trailing s (and_right (is_shown_text mode f.leading) (is_shown_text mode f.trailing) both)))
          (and_both _ _
          (value-settled (to_element x.path i) (inner_depth x.layout x.depth) None v (and_left (is_settled_value mode v) (have_settled_values mode ps) rest))
          (pairs-settled x (suc i) (pad (to_element x.path i)) ps s (and_right (is_settled_value mode v) (have_settled_values mode ps) rest)))

  -- ---- the mentions of statements

  relay : Text → Text
  relay t = if r.dots then [] else t

  none-relayed : relay [] ≡ []
  unfolding relay
  none-relayed = by_test r.dots []
    where
      by_test : (b : Bool) (x : Text) → (if b then x else x) ≡ x
      by_test true x = refl
      by_test false x = refl

  -- the one statement has the keys of the other one, laid out
  record Keyed (t s : Statement) : Type 0 where
    line : is_line t ≡ is_line s
    opened : opening_of t ≡ relay (opening_of s)
    closed : closing_of t ≡ relay (closing_of s)
    paths_are : (c e : Context) → SameContext c e → segs (mentions_of c t) ≡ map (on_tag (laid_segment r)) (segs (mentions_of e s))
    bones_are : skeleton t ≡ skeleton s

  line-keyed : (g f : Frame) (w v : Value) (end : Text) → g.path ≡ laid_path r f.path
      → skeleton (key_line g w end) ≡ skeleton (key_line f v end) → Keyed (key_line g w end) (key_line f v end)
  unfolding relay
  line-keyed g f w v end p b =
      let s = key_line f v end in
      let t = key_line g w end in
      record {
        line = refl;
        opened = sym none-relayed;
        closed = sym none-relayed;
        paths_are = λ c e h.
            ap (λ q. segs (line_mentions (source_of c t) (c.start + path_start t) c.block q)) p
            ∙ ap (λ q. segs (line_mentions (source_of c t) (c.start + path_start t) q (laid_path r f.path))) h.1
            ∙ line-segs r (source_of e s) (source_of c t) (e.start + path_start s) (c.start + path_start t) e.block f.path;
        bones_are = b;
      }

  header-keyed : (y x : Header) (end : Text) → y.path ≡ laid_path r x.path → y.is_array ≡ x.is_array → y.opening ≡ relay x.opening
      → y.closing ≡ relay x.closing → skeleton (header y end) ≡ skeleton (header x end) → Keyed (header y end) (header x end)
  header-keyed y x end p a o c b =
      let s = header x end in
      let t = header y end in
      record {
        line = refl;
        opened = o;
        closed = c;
        paths_are = λ d e h.
            ap (λ q. segs (header_mentions (source_of d t) d.arrays (header_role_of y) (d.start + path_start t) [] q)) p
            ∙ ap (λ z. segs (header_mentions (source_of d t) d.arrays z (d.start + path_start t) [] (laid_path r x.path))) (ap role_of a)
            ∙ ap (λ q. segs (header_mentions (source_of d t) q (header_role_of x) (d.start + path_start t) [] (laid_path r x.path))) h.0
            ∙ header-segs r (source_of e s) (source_of d t) e.arrays (header_role_of x) (e.start + path_start s) (d.start + path_start t) [] x.path;
        bones_are = b;
      }

  keyed : (pad : Path → ℕ) (st : State) (s : Statement) → (stays (reached r st (leading_of s)) ≡ true → keys_laid r s ≡ s)
      → Keyed (lay r pad st s) s
  unfolding relay
  keyed pad st s k = by_test (stays (reached r st (leading_of s))) s (statement-bones r pad st s) k
    where
      by_test : (b : Bool) (s : Statement) → skeleton (if b then s else laid_statement r pad st s) ≡ skeleton s → (b ≡ true → keys_laid r s ≡ s)
          → Keyed (if b then s else laid_statement r pad st s) s
      by_test true (key_line f v end) q k = line-keyed f f v v end (sym (ap path_of (k refl))) q
      by_test true (header x end) q k =
          header-keyed x x end (sym (ap path_of (k refl))) refl (sym (ap opening_of (k refl))) (sym (ap closing_of (k refl))) q
      by_test false (key_line f v end) q k = line-keyed (laid_frame r (leading r st.is_start (line_depth r st.keys) f.leading) (line_rest r (pad []) f.trailing) f) f
          (laid_value r pad [] (line_depth r st.keys)
          (Some (used_before (laid_frame r (leading r st.is_start (line_depth r st.keys) f.leading) (line_rest r (pad []) f.trailing) f))) v) v end refl q
      by_test false (header x end) q k = header-keyed (record {
        leading = header_leading r st.is_start (header_depth r (length x.path)) x.leading;
        is_array = x.is_array;
        opening = if r.dots then [] else x.opening;
        path = laid_path r x.path;
        closing = if r.dots then [] else x.closing;
        trailing = line_rest r (usual_pad r.comments) x.trailing;
      }) x end refl refl refl refl q

  -- what follows of it
  cores-keyed : (t s : Statement) → Keyed t s → (c e : Context) → SameContext c e → cores (mentions_of c t) ≡ cores (mentions_of e s)
  cores-keyed t s k c e h =
      sym (statement-cores c c t (refl, refl)) ∙ ap (λ x. cores (mentions_of c x)) k.bones_are ∙ statement-cores c e s h

  context-keyed : (t s : Statement) → Keyed t s → (c e : Context) → SameContext c e → SameContext (context_after c t) (context_after e s)
  context-keyed t s k c e h =
      let old = context-bones c c t (refl, refl) in
      let new = context-bones c e s h in (
        sym old.0 ∙ ap (λ x. (context_after c x).arrays) k.bones_are ∙ new.0,
        sym old.1 ∙ ap (λ x. (context_after c x).block) k.bones_are ∙ new.1,
      )

  source-bones : (c : Context) (x : Header) (end : Text) → (source_of c (skeleton (header x end))).path ≡ (source_of c (header x end)).path
  source-bones c x end = path-bones-at c.arrays [] x.path

  source-keyed : (y x : Header) (end : Text) → Keyed (header y end) (header x end) → (c e : Context) → SameContext c e
      → (source_of c (header y end)).path ≡ (source_of e (header x end)).path
  source-keyed y x end k c e h =
      sym (source-bones c y end) ∙ ap (λ z. (source_of c z).path) k.bones_are ∙ source-bones c x end
      ∙ ap (λ a. header_path a [] x.path) h.0

  abbrev of_statement : (Statement → Text) → List (Mention Source) → List (Tag Text)
  of_statement g ms = tags (λ m. g m.source.statement) ms

  abbrev mentioned : List Placed → List (Mention Source)
  mentioned xs = flat_map (λ ms. ms) (map (λ x. x.mentions) xs)

  line-const : (g : Statement → Text) (source : Source) (i : ℕ) (p : Path) (ss : List Segment)
      → of_statement g (line_mentions source i p ss) ≡ map (λ c. (c, g source.statement)) (cores (line_mentions source i p ss))
  line-const g source i p [] = refl
  line-const g source i p (s ∷ []) = refl
  line-const g source i p (s ∷ t ∷ rest) = ap (λ xs. ((to_key p s.key, dotted_role), g source.statement) ∷ xs) (line-const g source (next_start i s) (to_key p s.key) (t ∷ rest))

  header-const : (g : Statement → Text) (source : Source) (arrays : List Path) (role : Role) (i : ℕ) (p : Path) (ss : List Segment)
      → of_statement g (header_mentions source arrays role i p ss)
      ≡ map (λ c. (c, g source.statement)) (cores (header_mentions source arrays role i p ss))
  header-const g source arrays role i p [] = refl
  header-const g source arrays role i p (s ∷ []) = refl
  header-const g source arrays role i p (s ∷ t ∷ rest) = ap (λ xs. ((to_key p s.key, passing_role (elements_at arrays (to_key p s.key))), g source.statement) ∷ xs)
      (header-const g source arrays role (next_start i s) (in_last (elements_at arrays (to_key p s.key)) (to_key p s.key)) (t ∷ rest))

  statement-const : (g : Statement → Text) (c : Context) (st : Statement)
      → of_statement g (mentions_of c st) ≡ map (λ x. (x, g st)) (cores (mentions_of c st))
  statement-const g c (key_line f v end) =
      line-const g (source_of c (key_line f v end)) (c.start + path_start (key_line f v end)) c.block f.path
  statement-const g c (header x end) =
      header-const g (source_of c (header x end)) c.arrays (header_role_of x) (c.start + path_start (header x end)) [] x.path

  statement-tags : (g : Statement → Text) (t s : Statement) → g t ≡ relay (g s) → Keyed t s → (c e : Context) → SameContext c e
      → of_statement g (mentions_of c t) ≡ map (on_tag relay) (of_statement g (mentions_of e s))
  statement-tags g t s same k c e h =
      statement-const g c t
      ∙ ap (λ u. map (λ x. (x, u)) (cores (mentions_of c t))) same
      ∙ ap (map (λ x. (x, relay (g s)))) (cores-keyed t s k c e h)
      ∙ sym (ap (map (on_tag relay)) (statement-const g e s) ∙ map-map (on_tag relay) (λ x. (x, g s)) (cores (mentions_of e s)))

  -- ---- statements

  kept-part : (g : Statement → Text) (ms : List (Mention Source)) (p : Path) (st : Statement)
      → g (kept_statement ms p st) ≡ unwrap_or (kept_at (of_statement g ms) p) (g st)
  kept-part g ms p st =
      by_kept (kept_mention ms p) ∙ ap (λ o. unwrap_or o (g st)) (kept-tags (λ m. g m.source.statement) ms p)
    where
      by_kept : (o : Option (Mention Source)) → g (unwrap_or (option_map (λ k. k.source.statement) o) st)
          ≡ unwrap_or (option_map (λ k. g k.source.statement) o) (g st)
      by_kept None = refl
      by_kept (Some k) = refl

  kept-relayed : (g : Statement → Text) (ms ns : List (Mention Source)) (p : Path) (st t : Statement)
      → of_statement g ns ≡ map (on_tag relay) (of_statement g ms) → g t ≡ relay (g st)
      → g (kept_statement ns p t) ≡ relay (g (kept_statement ms p st))
  kept-relayed g ms ns p st t e f =
      kept-part g ns p t
      ∙ ap (λ ts. unwrap_or (kept_at ts p) (g t)) e
      ∙ ap (λ o. unwrap_or o (g t)) (kept-on relay (of_statement g ms) p)
      ∙ ap (unwrap_or (option_map relay (kept_at (of_statement g ms) p))) f
      ∙ unwrap-on relay (kept_at (of_statement g ms) p) (g st)
      ∙ ap relay (sym (kept-part g ms p st))

  -- what the statements of both say in common
  record Alike (ms ns : List (Mention Source)) : Type 0 where
    segments : segs ns ≡ map (on_tag (laid_segment r)) (segs ms)
    openings : of_statement opening_of ns ≡ map (on_tag relay) (of_statement opening_of ms)
    closings : of_statement closing_of ns ≡ map (on_tag relay) (of_statement closing_of ms)

  same-relayed : (a b u v : Text) → u ≡ relay a → v ≡ relay b → same_text a b ≡ true → same_text u v ≡ true
  same-relayed a b u v e f h =
      ap (λ x. same_text x v) (e ∙ ap relay (same_text-is a b h) ∙ sym f) ∙ same_text-refl v

  -- a line and a header with the keys laid out, and what else it has shown
  line-settled : (ms ns : List (Mention Source)) (c e : Context) (f g : Frame) (v w : Value) (end : Text)
      → Keyed (key_line g w end) (key_line f v end) → Alike ms ns → SameContext c e
      → is_settled_statement mode ms (placed_at e (key_line f v end)) (key_line f v end) ≡ true
      → (is_shown_frame mode g && is_settled_value mode w) ≡ true
      → is_settled_statement mode ns (placed_at c (key_line g w end)) (key_line g w end) ≡ true
  line-settled ms ns c e f g v w end k a h old shown =
      let own = mentions_of e (key_line f v end) in
      let second = and_right (is_shown_frame mode f && is_settled_value mode v) (is_kept ms own && is_settled_end mode end) old in
      and_both _ _ shown
      (and_both _ _
      (kept-laid r ms own ns (mentions_of c (key_line g w end)) a.segments (k.paths_are c e h)
      (and_left (is_kept ms own) (is_settled_end mode end) second))
      (and_right (is_kept ms own) (is_settled_end mode end) second))

  header-settled : (ms ns : List (Mention Source)) (c e : Context) (x y : Header) (end : Text)
      → Keyed (header y end) (header x end) → Alike ms ns → SameContext c e
      → is_settled_statement mode ms (placed_at e (header x end)) (header x end) ≡ true → is_shown_text mode y.leading ≡ true
      → is_settled_statement mode ns (placed_at c (header y end)) (header y end) ≡ true
  header-settled ms ns c e x y end k a h old shown =
      let s = header x end in
      let t = header y end in
      let own = mentions_of e s in
      let from = kept_statement ms (source_of e s).path s in
      let there = kept_statement ns (source_of c t).path t in
      let spaces = same_text x.opening (opening_of from) && same_text x.closing (closing_of from) in
      let first = and_left (is_shown_text mode x.leading && spaces) (is_kept ms own && is_settled_end mode end) old in
      let second = and_right (is_shown_text mode x.leading && spaces) (is_kept ms own && is_settled_end mode end) old in
      let inner = and_right (is_shown_text mode x.leading) spaces first in
      let path = source-keyed y x end k c e h in
      and_both _ _
      (and_both _ _ shown
      (and_both _ _
      (same-relayed x.opening (opening_of from) (opening_of t) (opening_of there) k.opened
      (ap (λ q. opening_of (kept_statement ns q t)) path
      ∙ kept-relayed opening_of ms ns (source_of e s).path s t a.openings k.opened)
      (and_left (same_text x.opening (opening_of from)) (same_text x.closing (closing_of from)) inner))
      (same-relayed x.closing (closing_of from) (closing_of t) (closing_of there) k.closed
      (ap (λ q. closing_of (kept_statement ns q t)) path
      ∙ kept-relayed closing_of ms ns (source_of e s).path s t a.closings k.closed)
      (and_right (same_text x.opening (opening_of from)) (same_text x.closing (closing_of from)) inner))))
      (and_both _ _
      (kept-laid r ms own ns (mentions_of c t) a.segments (k.paths_are c e h)
      (and_left (is_kept ms own) (is_settled_end mode end) second))
      (and_right (is_kept ms own) (is_settled_end mode end) second))

  statement-settled : (ms ns : List (Mention Source)) (c e : Context) (pad : Path → ℕ) (st : State) (s : Statement)
      → Keyed (lay r pad st s) s → Alike ms ns → SameContext c e
      → is_settled_statement mode ms (placed_at e s) s ≡ true
      → is_settled_statement mode ns (placed_at c (lay r pad st s)) (lay r pad st s) ≡ true
  statement-settled ms ns c e pad st s k a h old = by_test (stays (reached r st (leading_of s))) s k old
    where
      by_test : (b : Bool) (s : Statement) → Keyed (if b then s else laid_statement r pad st s) s
          → is_settled_statement mode ms (placed_at e s) s ≡ true
          → is_settled_statement mode ns (placed_at c (if b then s else laid_statement r pad st s)) (if b then s else laid_statement r pad st s) ≡ true
      by_test true (key_line f v end) q g =
          line-settled ms ns c e f f v v end q a h g
          (and_left (is_shown_frame mode f && is_settled_value mode v) (is_kept ms (mentions_of e (key_line f v end)) && is_settled_end mode end) g)
      by_test true (header x end) q g =
          header-settled ms ns c e x x end q a h g
          (and_left (is_shown_text mode x.leading) _
          (and_left _ (is_kept ms (mentions_of e (header x end)) && is_settled_end mode end) g))
      by_test false (key_line f v end) q g =
          let depth = line_depth r st.keys in
          let frame = laid_frame r (leading r st.is_start depth f.leading) (line_rest r (pad []) f.trailing) f in
          let first = and_left (is_shown_frame mode f && is_settled_value mode v) (is_kept ms (mentions_of e (key_line f v end)) && is_settled_end mode end) g in
          let both = and_left (is_shown_frame mode f) (is_settled_value mode v) first in
          line-settled ms ns c e f frame v (laid_value r pad [] depth (Some (used_before frame)) v) end q a h g
          (and_both _ _
          (and_both _ _
          (shown-by mode f.leading (leading r st.is_start depth f.leading) (λ x y. leading-none r st.is_start depth f.leading y)
          (and_left (is_shown_text mode f.leading) (is_shown_text mode f.trailing) both))
          (shown-by mode f.trailing (line_rest r (pad []) f.trailing) (λ x y. line-rest-none r (pad []) f.trailing y)
          (and_right (is_shown_text mode f.leading) (is_shown_text mode f.trailing) both)))
          (value-settled pad [] depth (Some (used_before frame)) v (and_right (is_shown_frame mode f) (is_settled_value mode v) first)))
      by_test false (header x end) q g =
          let depth = header_depth r (length x.path) in
          header-settled ms ns c e x (record {
            leading = header_leading r st.is_start depth x.leading;
            is_array = x.is_array;
            opening = if r.dots then [] else x.opening;
            path = laid_path r x.path;
            closing = if r.dots then [] else x.closing;
            trailing = line_rest r (usual_pad r.comments) x.trailing;
          }) end q a h g
          (shown-by mode x.leading (header_leading r st.is_start depth x.leading)
          (λ y z. header-none r (newlines y) st.is_start depth x.leading z)
          (and_left (is_shown_text mode x.leading) _
          (and_left _ (is_kept ms (mentions_of e (header x end)) && is_settled_end mode end) g)))

  -- ---- all statements

  module _ (pad : ℕ → Path → ℕ) where
    all-tags : (g : Statement → Text) → ((t s : Statement) → Keyed t s → g t ≡ relay (g s))
        → (c e : Context) (n : ℕ) (st : State) (ss : List Statement) → KeysAreLaid r st ss → SameContext c e
        → of_statement g (mentioned (placed_from c (laid_statements r pad n st ss))) ≡ map (on_tag relay) (of_statement g (mentioned (placed_from e ss)))
    all-tags g same c e n st [] a h = refl
    all-tags g same c e n st (s ∷ rest) a h =
        let t = lay r (pad n) st s in
        let k = keyed (pad n) st s a.0 in
        let ns = mentioned (placed_from (context_after c t) (laid_statements r pad (suc n) (after r st s) rest)) in
        let ms = mentioned (placed_from (context_after e s) rest) in
        map-append (tag (λ m. g m.source.statement)) (mentions_of c t) ns
        ∙ ap (λ xs. xs ++ of_statement g ns) (statement-tags g t s (same t s k) k c e h)
        ∙ ap (λ xs. map (on_tag relay) (of_statement g (mentions_of e s)) ++ xs)
        (all-tags g same (context_after c t) (context_after e s) (suc n) (after r st s) rest a.1 (context-keyed t s k c e h))
        ∙ sym (ap (map (on_tag relay)) (map-append (tag (λ m. g m.source.statement)) (mentions_of e s) ms)
        ∙ map-append (on_tag relay) (of_statement g (mentions_of e s)) (of_statement g ms))

    all-segs : (c e : Context) (n : ℕ) (st : State) (ss : List Statement) → KeysAreLaid r st ss → SameContext c e
        → segs (mentioned (placed_from c (laid_statements r pad n st ss)))
        ≡ map (on_tag (laid_segment r)) (segs (mentioned (placed_from e ss)))
    all-segs c e n st [] a h = refl
    all-segs c e n st (s ∷ rest) a h =
        let t = lay r (pad n) st s in
        let k = keyed (pad n) st s a.0 in
        let ns = mentioned (placed_from (context_after c t) (laid_statements r pad (suc n) (after r st s) rest)) in
        let ms = mentioned (placed_from (context_after e s) rest) in
        segs-append (mentions_of c t) ns
        ∙ ap (λ xs. xs ++ segs ns) (k.paths_are c e h)
        ∙ ap (λ xs. map (on_tag (laid_segment r)) (segs (mentions_of e s)) ++ xs)
        (all-segs (context_after c t) (context_after e s) (suc n) (after r st s) rest a.1 (context-keyed t s k c e h))
        ∙ sym (ap (map (on_tag (laid_segment r))) (segs-append (mentions_of e s) ms)
        ∙ map-append (on_tag (laid_segment r)) (segs (mentions_of e s)) (segs ms))

    all-settled : (ms ns : List (Mention Source)) (c e : Context) (n : ℕ) (st : State) (ss : List Statement) → Alike ms ns
        → KeysAreLaid r st ss → SameContext c e
        → list_all (λ p. is_settled_statement mode ms p p.source.statement) (placed_from e ss) ≡ true
        → list_all (λ p. is_settled_statement mode ns p p.source.statement) (placed_from c (laid_statements r pad n st ss)) ≡ true
    all-settled ms ns c e n st [] o a h g = refl
    all-settled ms ns c e n st (s ∷ rest) o a h g =
        let t = lay r (pad n) st s in
        let k = keyed (pad n) st s a.0 in
        let more = list_all (λ p. is_settled_statement mode ms p p.source.statement) (placed_from (context_after e s) rest) in
        and_both _ _
        (ap (is_settled_statement mode ns (placed_at c t)) (source-statement c t)
        ∙ statement-settled ms ns c e (pad n) st s k o h
        (ap (is_settled_statement mode ms (placed_at e s)) (sym (source-statement e s))
        ∙ and_left (is_settled_statement mode ms (placed_at e s) (source_of e s).statement) more g))
        (all-settled ms ns (context_after c t) (context_after e s) (suc n) (after r st s) rest o a.1 (context-keyed t s k c e h)
        (and_right (is_settled_statement mode ms (placed_at e s) (source_of e s).statement) more g))

    all-seats : (c e : Context) (n : ℕ) (st : State) (ss : List Statement) → KeysAreLaid r st ss → SameContext c e
        → map seat (placed_from c (laid_statements r pad n st ss)) ≡ map seat (placed_from e ss)
    all-seats c e n st [] a h = refl
    all-seats c e n st (s ∷ rest) a h =
        let t = lay r (pad n) st s in
        let k = keyed (pad n) st s a.0 in
        let more = map seat (placed_from (context_after c t) (laid_statements r pad (suc n) (after r st s) rest)) in
        ap (λ x. (is_line x, paths (mentions_of c t)) ∷ more) (source-statement c t)
        ∙ ap (λ b. (b, paths (mentions_of c t)) ∷ more) k.line
        ∙ ap (λ ps. (is_line s, ps) ∷ more)
        (paths-cores (mentions_of c t) ∙ ap (map (λ x. x.0)) (cores-keyed t s k c e h) ∙ sym (paths-cores (mentions_of e s)))
        ∙ ap (λ x. (is_line x, paths (mentions_of e s)) ∷ more) (sym (source-statement e s))
        ∙ ap (λ xs. seat (placed_at e s) ∷ xs)
        (all-seats (context_after c t) (context_after e s) (suc n) (after r st s) rest a.1 (context-keyed t s k c e h))

    final-shown : (st : State) (t : Text) → is_shown_text mode t ≡ true → is_shown_text mode (laid_final r st t) ≡ true
    final-shown st t h = by_test (stays (reached r st t))
      where
        by_test : (b : Bool) → is_shown_text mode (if b then t else final_text r st.is_start t) ≡ true
        by_test true = h
        by_test false = shown-by mode t (final_text r st.is_start t) (λ x y. final-none-return r st.is_start t y) h

    settled-document : (d : Document) → KeysAreLaid r start d.statements → is_settled_in mode d ≡ true
        → is_settled_in mode (laid_document r pad d) ≡ true
    settled-document d a h =
        let c = start_context d in
        let ss = laid_statements r pad 0 start d.statements in
        let xs = placed_from c d.statements in
        let ys = placed_from c ss in
        let mss = map (λ x. x.mentions) xs in
        let nss = map (λ x. x.mentions) ys in
        let same = sym (all-cores c c ss (refl, refl))
        ∙ ap (λ us. map cores (map (λ p. p.mentions) (placed_from c us))) (statements-bones r pad 0 start d.statements)
        ∙ all-cores c c d.statements (refl, refl) in
        let begun = not d.has_mark && is_shown_text mode d.final in
        let body = and_right begun _ h in
        let head = and_left begun _ h in
        and_both _ _
        (and_both _ _
        (and_left (not d.has_mark) (is_shown_text mode d.final) head)
        (final-shown (state_after r start d.statements) d.final (and_right (not d.has_mark) (is_shown_text mode d.final) head)))
        (and_both _ _
        (line-order nss ys
        ∙ ap (λ ps. is_sorted_by (seated ps) (map seat ys)) (same-paths mss nss same)
        ∙ ap (is_sorted_by (seated (map paths mss))) (all-seats c c 0 start d.statements a (refl, refl))
        ∙ sym (line-order mss xs) ∙ and_left (has_ordered_lines mss xs) _ body)
        (all-settled (flat_map (λ m. m) mss) (flat_map (λ m. m) nss) c c 0 start d.statements
        (record {
          segments = all-segs c c 0 start d.statements a (refl, refl);
          openings = all-tags opening_of (λ t s k. k.opened) c c 0 start d.statements a (refl, refl);
          closings = all-tags closing_of (λ t s k. k.closed) c c 0 start d.statements a (refl, refl);
        })
        a (refl, refl) (and_right (has_ordered_lines mss xs) _ body)))

pub stays_settled : StaysSettled
stays_settled mode r newlines pad d a h = settled-document mode r newlines pad d a h
