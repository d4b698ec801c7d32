-- Values, statements and documents laid out again are as they are laid out once.
use Rattle.std.proofs.Common.{◌≡◌, refl, sym, ap, ◌∙◌, ℕ, suc, Bool, true, false, List, [], ◌∷◌, ◌++◌, length, Option, Some, None, append-nil}
use Rattle.std.specs.Prelude.{◌⊎◌, ◌||◌, ◌&&◌, ◌==◌, not, codes, if◌then◌else◌}
use Rattle.std.specs.List.{list_any}
use Rattle.toml_edit_model.specs.Comments.{comments}
use Rattle.toml_edit_model.specs.Paths.{Path, to_element}
use Rattle.toml_edit_model.specs.Print.{one_space}
use Rattle.toml_edit_model.specs.Syntax.{Segment, Around, Frame, Value, scalar, array, inline_table, Elements, no_elements, element, Pairs}
use Rattle.toml_edit_model.specs.Syntax.{no_pairs, pair, Header, Statement, key_line, header, Document, has_elements, has_pairs}
use Rattle.toml_edit_model.specs.Syntax.{IsClose, IsValue, AreElements, ArePairs, IsStatement, AreStatements, IsDocument}
use Rattle.toml_edit_model.specs.Text.{Text}
use Rattle.toml_edit_model.specs.Trivia.{IsWholeTrivia, IsFinalTrivia, IsNewline}
use Rattle.toml_edit_laws.proofs.common.Tests.{or-true}
use Rattle.toml_edit_fmt_laws.specs.Rules.{Rules, Comments, as_they_are, apart, aligned, line_depth, header_depth}
use Rattle.toml_edit_fmt_laws.specs.Laying.{leading, header_leading, line_rest, final_text, usual_pad}
use Rattle.toml_edit_fmt_laws.specs.Formatted.{Layout, array_layout, inline_layout, before_part, after_part, Inside, inside, in_array, in_inline, inner_depth, inner_room}
use Rattle.toml_edit_fmt_laws.specs.Formatted.{last_after, last_trailing, elements_count, pairs_count, last_pad, laid_spelling, laid_segment, laid_path, beside_equals, laid_frame}
use Rattle.toml_edit_fmt_laws.specs.Formatted.{laid_value, laid_elements, laid_pairs, used_before, State, start, stays, reached, keys_below, leading_of, after}
use Rattle.toml_edit_fmt_laws.specs.Formatted.{off_after, has_part, laid_statement, lay, laid_statements, state_after, laid_final, laid_document}
use Rattle.toml_edit_fmt_laws.specs.Aligned.{pad_in, pads_of, pads_as, formatted}
use Rattle.toml_edit_fmt_laws.specs.Promises.{LaidAgain, FormattedAgain}
use Rattle.toml_edit_fmt_laws.proofs.EndsAgain.{before-again, after-again, after_last, ends-again, none-again}
use Rattle.toml_edit_fmt_laws.proofs.LayoutAgain.{spelling-again, some-again, none-layout-again, pairs-layout-again, none-pairs-again}
use Rattle.toml_edit_fmt_laws.proofs.LeadingLaws.{leading-again, leading-comments}
use Rattle.toml_edit_fmt_laws.proofs.HeaderLaws.{header-again, header-comments}
use Rattle.toml_edit_fmt_laws.proofs.LineRests.{rest-again}
use Rattle.toml_edit_fmt_laws.proofs.Ends.{final-again, final-comments}
use Rattle.toml_edit_fmt_laws.proofs.Grammar.{last-whole, last-pair-whole}

module _ (r : Rules) where
  -- ---- keys

  twice : (b : Bool) (s t : Text) → (if b then s else (if b then s else t)) ≡ (if b then s else t)
  twice true s t = refl
  twice false s t = refl

  segment-again : (s : Segment) → laid_segment r (laid_segment r s) ≡ laid_segment r s
  segment-again s =
      ap (λ u. record (laid_segment r s) {
        before = u;
        spelled = laid_spelling r (laid_segment r s);
        after = if r.dots then [] else (if r.dots then [] else s.after);
      }) (twice r.dots [] s.before)
      ∙ ap (λ u. record (laid_segment r s) { spelled = u; after = if r.dots then [] else (if r.dots then [] else s.after) }) (spelling-again r s)
      ∙ ap (λ u. record (laid_segment r s) { after = u }) (twice r.dots [] s.after)

  path-again : (p : List Segment) → laid_path r (laid_path r p) ≡ laid_path r p
  path-again [] = refl
  path-again (s ∷ p) =
      ap (λ t. t ∷ laid_path r (laid_path r p)) (segment-again s) ∙ ap (λ q. laid_segment r s ∷ q) (path-again p)

  -- with other texts around it the second time
  frame-again : (f : Frame) (b a c d u v : Text) → c ≡ u → d ≡ v → laid_frame r c d (laid_frame r b a f) ≡ laid_frame r u v f
  frame-again f b a c d u v e g =
      ap (λ w. record (laid_frame r c d (laid_frame r b a f)) { leading = w }) e
      ∙ ap (λ w. record (laid_frame r u d (laid_frame r b a f)) { trailing = w }) g
      ∙ ap (λ w. record (laid_frame r u v (laid_frame r b a f)) { path = w }) (path-again f.path)
      ∙ ap (λ w. record (laid_frame r u v f) {
        before_equals = w;
        after_equals = beside_equals r (beside_equals r f.after_equals);
      }) (twice r.equals one_space f.before_equals)
      ∙ ap (λ w. record (laid_frame r u v f) { after_equals = w }) (twice r.equals one_space f.after_equals)

  -- ---- values

  module _ (pad other : Path → ℕ) where
    count-laid : (x : Inside) (i n : ℕ) (es : Elements) → elements_count (laid_elements r other x i n es) ≡ elements_count es
    count-laid x i n no_elements = refl
    count-laid x i n (element a v es) = ap suc (count-laid x (suc i) (other (to_element x.path i)) es)

    count-pairs : (x : Inside) (i n : ℕ) (ps : Pairs) → pairs_count (laid_pairs r other x i n ps) ≡ pairs_count ps
    count-pairs x i n no_pairs = refl
    count-pairs x i n (pair f v ps) = ap suc (count-pairs x (suc i) (other (to_element x.path i)) ps)

    -- what is after the last
    last-laid : (x : Inside) (i n : ℕ) (a : Around) (v : Value) (es : Elements)
        → last_after (laid_elements r other x i n (element a v es))
        ≡ after_part r x.layout (x.had_comma || false) x.depth (last_after (element a v es)) ++ x.last
    last-laid x i n a v no_elements = refl
    last-laid x i n a v (element b w es) = last-laid x (suc i) (other (to_element x.path i)) b w es

    last-laid-pair : (x : Inside) (i n : ℕ) (f : Frame) (v : Value) (ps : Pairs)
        → last_trailing (laid_pairs r other x i n (pair f v ps))
        ≡ after_part r x.layout (x.had_comma || false) x.depth (last_trailing (pair f v ps)) ++ x.last
    last-laid-pair x i n f v no_pairs = refl
    last-laid-pair x i n f v (pair g w ps) = last-laid-pair x (suc i) (other (to_element x.path i)) g w ps

    -- after a member that is not the last
    mid-again : (l : Layout) (depth : ℕ) (c d : Bool) (t : Text) → IsWholeTrivia t
        → after_part r l (d || true) depth (after_part r l (c || true) depth t ++ []) ++ [] ≡ after_part r l (c || true) depth t ++ []
    mid-again l depth c d t h =
        ap (λ b. after_part r l b depth (after_part r l (c || true) depth t ++ []) ++ []) (or-true d)
        ∙ ap (λ b. after_part r l true depth (after_part r l b depth t ++ []) ++ []) (or-true c)
        ∙ ap (λ u. after_part r l true depth u ++ []) (append-nil (after_part r l true depth t))
        ∙ ap (λ u. u ++ []) (after-again r l depth t h)
        ∙ sym (ap (λ b. after_part r l b depth t ++ []) (or-true c))

    mutual
      value-again : (p : Path) (depth : ℕ) (room : Option ℕ) (v : Value) → IsValue v
          → laid_value r pad p depth room (laid_value r other p depth room v) ≡ laid_value r pad p depth room v
      value-again p depth room (scalar s t) h = refl
      value-again p depth room (array no_elements comma t) h =
          let n = usual_pad r.comments in
          let l = array_layout r depth room no_elements comma t in
          let x = in_array r other p depth room no_elements comma t in
          let k = none-again r l p depth r.bracket_space n n comma t h.0 in
          ap (λ m. let y = inside r m p depth false r.bracket_space n x.comma [] x.close in array no_elements y.comma y.close)
          (none-layout-again r other p depth r.bracket_space n comma t room h.0 r.arrays)
          ∙ ap (λ b. array no_elements b (inside r l p depth false r.bracket_space n x.comma [] x.close).close) k.comma_is
          ∙ ap (array no_elements (in_array r pad p depth room no_elements comma t).comma) k.close
      value-again p depth room (array (element a v es) comma t) h =
          let m = usual_pad r.comments in
          let xs = element a v es in
          let l = array_layout r depth room xs comma t in
          let x = in_array r other p depth room xs comma t in
          let z = in_array r pad p depth room xs comma t in
          let ys = laid_elements r other x 0 m xs in
          let k = pad (to_element p (elements_count es)) in
          let j = other (to_element p (elements_count es)) in
          let made = λ (y : Inside). array (laid_elements r pad y 0 m ys) y.comma y.close in
          let last = after_last r l p depth r.bracket_space j comma (last_after xs) t in
          let y = inside r l p depth true r.bracket_space k x.comma last x.close in
          let e = ends-again r l p depth r.bracket_space k j comma (last_after xs) t (last-whole xs h.1) h.0 in
          ap (λ o. made (inside r o p depth true r.bracket_space (last_pad r pad p (elements_count ys)) x.comma (last_after ys) x.close))
          (some-again r other p depth r.bracket_space j comma t room m a v es h.1 h.0 r.arrays)
          ∙ ap (λ c. made (inside r l p depth true r.bracket_space (last_pad r pad p c) x.comma (last_after ys) x.close)) (count-laid x 0 m xs)
          ∙ ap (λ u. made (inside r l p depth true r.bracket_space k x.comma u x.close)) (last-laid x 0 m a v es)
          ∙ ap (λ qs. array qs y.comma y.close)
          (elements-again l p depth r.bracket_space k j comma t 0 m m (element a v es) h.1 h.0 refl)
          ∙ ap (λ b. array (laid_elements r pad z 0 m xs) b y.close) e.comma_is
          ∙ ap (array (laid_elements r pad z 0 m xs) z.comma) e.close
      value-again p depth room (inline_table no_pairs comma t) h =
          let n = usual_pad r.comments in
          let l = inline_layout r no_pairs t in
          let x = in_inline r other p depth no_pairs comma t in
          let k = none-again r l p depth r.brace_space n n comma t h.0 in
          ap (λ m. let y = inside r m p depth false r.brace_space n x.comma [] x.close in inline_table no_pairs y.comma y.close)
          (none-pairs-again r other p depth r.brace_space n comma t room h.0 r.inline_tables)
          ∙ ap (λ b. inline_table no_pairs b (inside r l p depth false r.brace_space n x.comma [] x.close).close) k.comma_is
          ∙ ap (inline_table no_pairs (in_inline r pad p depth no_pairs comma t).comma) k.close
      value-again p depth room (inline_table (pair f v ps) comma t) h =
          let m = usual_pad r.comments in
          let xs = pair f v ps in
          let l = inline_layout r xs t in
          let x = in_inline r other p depth xs comma t in
          let z = in_inline r pad p depth xs comma t in
          let ys = laid_pairs r other x 0 m xs in
          let k = pad (to_element p (pairs_count ps)) in
          let j = other (to_element p (pairs_count ps)) in
          let made = λ (y : Inside). inline_table (laid_pairs r pad y 0 m ys) y.comma y.close in
          let last = after_last r l p depth r.brace_space j comma (last_trailing xs) t in
          let y = inside r l p depth true r.brace_space k x.comma last x.close in
          let e = ends-again r l p depth r.brace_space k j comma (last_trailing xs) t (last-pair-whole xs h.1) h.0 in
          ap (λ o. made (inside r o p depth true r.brace_space (last_pad r pad p (pairs_count ys)) x.comma (last_trailing ys) x.close))
          (pairs-layout-again r other p depth r.brace_space j comma t m f v ps r.inline_tables)
          ∙ ap (λ c. made (inside r l p depth true r.brace_space (last_pad r pad p c) x.comma (last_trailing ys) x.close)) (count-pairs x 0 m xs)
          ∙ ap (λ u. made (inside r l p depth true r.brace_space k x.comma u x.close)) (last-laid-pair x 0 m f v ps)
          ∙ ap (λ qs. inline_table qs y.comma y.close)
          (pairs-again l p depth r.brace_space k j comma t 0 m m (pair f v ps) h.1 h.0 refl)
          ∙ ap (λ b. inline_table (laid_pairs r pad z 0 m xs) b y.close) e.comma_is
          ∙ ap (inline_table (laid_pairs r pad z 0 m xs) z.comma) e.close

      elements-again : (l : Layout) (p : Path) (depth : ℕ) (space : Bool) (k j : ℕ) (comma : Bool) (t : Text) (i n m : ℕ) (es : Elements)
          → AreElements es → IsClose true comma t → has_elements es ≡ true
          → let x = inside r l p depth true space j comma (last_after es) t in
          let y = inside r l p depth true space k x.comma (after_last r l p depth space j comma (last_after es) t) x.close in
          laid_elements r pad y i n (laid_elements r other x i m es)
          ≡ laid_elements r pad (inside r l p depth true space k comma (last_after es) t) i n es
      elements-again l p depth space k j comma t i n m no_elements h g some = absurd (let clash : false ≡ true = some in cc)
      elements-again l p depth space k j comma t i n m (element a v no_elements) h g some =
          let s = a.after in
          let x = inside r l p depth true space j comma s t in
          let y = inside r l p depth true space k x.comma (after_last r l p depth space j comma s t) x.close in
          let here = to_element p i in
          let d = inner_depth l depth in
          let room = inner_room r l depth in
          let w = laid_value r pad here d room (laid_value r other here d room v) in
          let end = after_last r l p depth space k x.comma (after_last r l p depth space j comma s t) x.close in
          ap (λ u. element (record { before = u; after = end }) w no_elements)
          (before-again r l n m (i == 0) depth x.edge a.before h.0)
          ∙ ap (λ u. element (record { before = before_part r l n (i == 0) depth x.edge a.before; after = u }) w no_elements)
          (ends-again r l p depth space k j comma s t h.1 g).after
          ∙ ap (λ u. element (record {
            before = before_part r l n (i == 0) depth x.edge a.before;
            after = after_last r l p depth space k comma s t;
          }) u no_elements) (value-again here d room v h.2)
      elements-again l p depth space k j comma t i n m (element a v (element b u es)) h g some =
          let rest = element b u es in
          let s = last_after rest in
          let x = inside r l p depth true space j comma s t in
          let y = inside r l p depth true space k x.comma (after_last r l p depth space j comma s t) x.close in
          let here = to_element p i in
          let d = inner_depth l depth in
          let room = inner_room r l depth in
          let w = laid_value r pad here d room (laid_value r other here d room v) in
          let before = before_part r l n (i == 0) depth x.edge a.before in
          let end = after_part r l (comma || true) depth a.after ++ [] in
          let more = laid_elements r pad y (suc i) (pad here) (laid_elements r other x (suc i) (other here) rest) in
          ap (λ q. element (record { before = q; after = after_part r l (x.comma || true) depth end ++ [] }) w more)
          (before-again r l n m (i == 0) depth x.edge a.before h.0)
          ∙ ap (λ q. element (record { before = before; after = q }) w more) (mid-again l depth comma x.comma a.after h.1)
          ∙ ap (λ q. element (record { before = before; after = end }) q more) (value-again here d room v h.2)
          ∙ ap (element (record { before = before; after = end }) (laid_value r pad here d room v))
          (elements-again l p depth space k j comma t (suc i) (pad here) (other here) (element b u es) h.3 g refl)

      pairs-again : (l : Layout) (p : Path) (depth : ℕ) (space : Bool) (k j : ℕ) (comma : Bool) (t : Text) (i n m : ℕ) (ps : Pairs)
          → ArePairs ps → IsClose true comma t → has_pairs ps ≡ true
          → let x = inside r l p depth true space j comma (last_trailing ps) t in
          let y = inside r l p depth true space k x.comma (after_last r l p depth space j comma (last_trailing ps) t) x.close in
          laid_pairs r pad y i n (laid_pairs r other x i m ps)
          ≡ laid_pairs r pad (inside r l p depth true space k comma (last_trailing ps) t) i n ps
      pairs-again l p depth space k j comma t i n m no_pairs h g some = absurd (let clash : false ≡ true = some in cc)
      pairs-again l p depth space k j comma t i n m (pair f v no_pairs) h g some =
          let s = f.trailing in
          let x = inside r l p depth true space j comma s t in
          let here = to_element p i in
          let d = inner_depth l depth in
          let w = laid_value r pad here d None (laid_value r other here d None v) in
          ap (λ q. pair q w no_pairs)
          (frame-again f (before_part r l m (i == 0) depth x.edge f.leading) (after_last r l p depth space j comma s t)
          (before_part r l n (i == 0) depth x.edge (before_part r l m (i == 0) depth x.edge f.leading))
          (after_last r l p depth space k x.comma (after_last r l p depth space j comma s t) x.close)
          (before_part r l n (i == 0) depth x.edge f.leading) (after_last r l p depth space k comma s t)
          (before-again r l n m (i == 0) depth x.edge f.leading h.0.0.leading)
          (ends-again r l p depth space k j comma s t h.0.0.trailing g).after)
          ∙ ap (λ u. pair (laid_frame r (before_part r l n (i == 0) depth x.edge f.leading) (after_last r l p depth space k comma s t) f) u no_pairs)
          (value-again here d None v h.1)
      pairs-again l p depth space k j comma t i n m (pair f v (pair b u ps)) h g some =
          let rest = pair b u ps in
          let s = last_trailing rest in
          let x = inside r l p depth true space j comma s t in
          let y = inside r l p depth true space k x.comma (after_last r l p depth space j comma s t) x.close in
          let here = to_element p i in
          let d = inner_depth l depth in
          let w = laid_value r pad here d None (laid_value r other here d None v) in
          let before = before_part r l n (i == 0) depth x.edge f.leading in
          let end = after_part r l (comma || true) depth f.trailing ++ [] in
          let more = laid_pairs r pad y (suc i) (pad here) (laid_pairs r other x (suc i) (other here) rest) in
          ap (λ q. pair q w more)
          (frame-again f (before_part r l m (i == 0) depth x.edge f.leading) end
          (before_part r l n (i == 0) depth x.edge (before_part r l m (i == 0) depth x.edge f.leading))
          (after_part r l (x.comma || true) depth end ++ []) before end
          (before-again r l n m (i == 0) depth x.edge f.leading h.0.0.leading) (mid-again l depth comma x.comma f.trailing h.0.0.trailing))
          ∙ ap (λ q. pair (laid_frame r before end f) q more) (value-again here d None v h.1)
          ∙ ap (pair (laid_frame r before end f) (laid_value r pad here d None v))
          (pairs-again l p depth space k j comma t (suc i) (pad here) (other here) (pair b u ps) h.2 g refl)

    -- ---- statements

    long-laid : (p : List Segment) → length (laid_path r p) ≡ length p
    long-laid [] = refl
    long-laid (s ∷ p) = ap suc (long-laid p)

    laid-again : (End : Text → Type 0) (st : State) (s : Statement) → IsStatement End s
        → laid_statement r pad st (laid_statement r other st s) ≡ laid_statement r pad st s
    laid-again End st (key_line f v end) h =
        let depth = line_depth r st.keys in
        let before = leading r st.is_start depth f.leading in
        let once = laid_frame r before (line_rest r (other []) f.trailing) f in
        let again = laid_frame r (leading r st.is_start depth before) (line_rest r (pad []) (line_rest r (other []) f.trailing)) once in
        let frame = laid_frame r before (line_rest r (pad []) f.trailing) f in
        let room = Some (used_before frame) in
        ap (λ g. key_line g (laid_value r pad [] depth (Some (used_before g)) (laid_value r other [] depth room v)) end)
        (frame-again f before (line_rest r (other []) f.trailing) (leading r st.is_start depth before)
        (line_rest r (pad []) (line_rest r (other []) f.trailing)) before (line_rest r (pad []) f.trailing)
        (leading-again r st.is_start depth f.leading h.0.0.leading) (rest-again r (pad []) (other []) f.trailing h.0.0.trailing))
        ∙ ap (λ w. key_line frame w end) (value-again [] depth room v h.1)
    laid-again End st (header x end) h =
        let n = usual_pad r.comments in
        let depth = header_depth r (length x.path) in
        let before = header_leading r st.is_start depth x.leading in
        let after_it = line_rest r n x.trailing in
        let y : Header = record {
          leading = before;
          is_array = x.is_array;
          opening = if r.dots then [] else x.opening;
          path = laid_path r x.path;
          closing = if r.dots then [] else x.closing;
          trailing = after_it;
        } in
        ap (λ k. header (record {
          leading = header_leading r st.is_start (header_depth r k) before;
          is_array = x.is_array;
          opening = if r.dots then [] else (if r.dots then [] else x.opening);
          path = laid_path r (laid_path r x.path);
          closing = if r.dots then [] else (if r.dots then [] else x.closing);
          trailing = line_rest r n after_it;
        }) end) (long-laid x.path)
        ∙ ap (λ u. header (record y {
          leading = u;
          opening = if r.dots then [] else (if r.dots then [] else x.opening);
          path = laid_path r (laid_path r x.path);
          closing = if r.dots then [] else (if r.dots then [] else x.closing);
          trailing = line_rest r n after_it;
        }) end) (header-again r st.is_start depth x.leading h.0.0.leading)
        ∙ ap (λ u. header (record y {
          opening = u;
          path = laid_path r (laid_path r x.path);
          closing = if r.dots then [] else (if r.dots then [] else x.closing);
          trailing = line_rest r n after_it;
        }) end) (twice r.dots [] x.opening)
        ∙ ap (λ u. header (record y {
          path = u;
          closing = if r.dots then [] else (if r.dots then [] else x.closing);
          trailing = line_rest r n after_it;
        }) end) (path-again x.path)
        ∙ ap (λ u. header (record y { closing = u; trailing = line_rest r n after_it }) end) (twice r.dots [] x.closing)
        ∙ ap (λ u. header (record y { trailing = u }) end) (rest-again r n n x.trailing h.0.0.trailing)

    -- the state is of the comments, which stay
    leading-said : (End : Text → Type 0) (st : State) (s : Statement) → IsStatement End s
        → comments (leading_of (laid_statement r other st s)) ≡ comments (leading_of s)
    leading-said End st (key_line f v end) h = leading-comments r st.is_start (line_depth r st.keys) f.leading h.0.0.leading
    leading-said End st (header x end) h = header-comments r st.is_start (header_depth r (length x.path)) x.leading h.0.0.leading

  reached-by : (st : State) (t u : Text) → comments t ≡ comments u → reached r st t ≡ reached r st u
  reached-by st t u e =
      ap (λ cs. if not r.left_alone then st else record st {
        is_off = off_after st.is_off cs;
        is_generated = st.is_generated || (st.is_start && list_any (has_part (codes "@generated")) cs);
      }) e

  keys-again : (pad : Path → ℕ) (keys : ℕ) (st : State) (s : Statement) → keys_below keys (laid_statement r pad st s) ≡ keys_below keys s
  keys-again pad keys st (key_line f v end) = refl
  keys-again pad keys st (header x end) = long-laid pad pad x.path

  -- a statement laid out leaves the state that it left
  abbrev passed : State → ℕ → State
  passed q k = record q { is_start = false; keys = k }

  record Passed (pad other : Path → ℕ) (st : State) (s : Statement) : Type 0 where
    again : lay r pad st (lay r other st s) ≡ lay r pad st s
    next : after r st (lay r other st s) ≡ after r st s

  statement-again : (pad other : Path → ℕ) (End : Text → Type 0) (st : State) (s : Statement) → IsStatement End s → Passed pad other st s
  statement-again pad other End st s h = by_test (stays (reached r st (leading_of s))) refl
    where
      by_test : (b : Bool) → stays (reached r st (leading_of s)) ≡ b → Passed pad other st s
      by_test true e =
          let same : lay r other st s ≡ s = ap (λ b. if b then s else laid_statement r other st s) e in
          record { again = ap (lay r pad st) same; next = ap (after r st) same }
      by_test false e =
          let t = laid_statement r other st s in
          let same : lay r other st s ≡ t = ap (λ b. if b then s else t) e in
          let said : reached r st (leading_of t) ≡ reached r st (leading_of s) =
          reached-by st (leading_of t) (leading_of s) (leading-said pad other End st s h) in
          record {
            again = ap (lay r pad st) same ∙ ap (λ q. if stays q then t else laid_statement r pad st t) said
                ∙ ap (λ b. if b then t else laid_statement r pad st t) e
                ∙ laid-again pad other End st s h
                ∙ sym (ap (λ b. if b then s else laid_statement r pad st s) e);
            next = ap (after r st) same
                ∙ ap (λ q. passed q (keys_below st.keys t)) said
                ∙ ap (passed (reached r st (leading_of s))) (keys-again other st.keys st s);
          }

  -- ---- documents

  module _ (pad other : ℕ → Path → ℕ) where
    statements-again : (n : ℕ) (final : Text) (st : State) (ss : List Statement) → AreStatements final ss
        → laid_statements r pad n st (laid_statements r other n st ss) ≡ laid_statements r pad n st ss
    statements-again n final st [] h = refl
    statements-again n final st (s ∷ []) h =
        ap (λ x. x ∷ []) (statement-again (pad n) (other n) (λ end. IsNewline end ⊎ ((end ≡ []) × (final ≡ []))) st s h).again
    statements-again n final st (s ∷ next ∷ rest) h =
        let one = statement-again (pad n) (other n) IsNewline st s h.0 in
        ap (λ x. x ∷ laid_statements r pad (suc n) (after r st (lay r (other n) st s))
        (laid_statements r other (suc n) (after r st s) (next ∷ rest))) one.again
        ∙ ap (λ q. lay r (pad n) st s ∷ laid_statements r pad (suc n) q (laid_statements r other (suc n) (after r st s) (next ∷ rest))) one.next
        ∙ ap (λ xs. lay r (pad n) st s ∷ xs) (statements-again (suc n) final (after r st s) (next ∷ rest) h.1)

    state-again : (n : ℕ) (final : Text) (st : State) (ss : List Statement) → AreStatements final ss
        → state_after r st (laid_statements r other n st ss) ≡ state_after r st ss
    state-again n final st [] h = refl
    state-again n final st (s ∷ []) h =
        (statement-again (pad n) (other n) (λ end. IsNewline end ⊎ ((end ≡ []) × (final ≡ []))) st s h).next
    state-again n final st (s ∷ next ∷ rest) h =
        ap (λ q. state_after r q (laid_statements r other (suc n) (after r st s) (next ∷ rest)))
        (statement-again (pad n) (other n) IsNewline st s h.0).next
        ∙ state-again (suc n) final (after r st s) (next ∷ rest) h.1

  final-laid-again : (st : State) (t : Text) → IsFinalTrivia t → laid_final r st (laid_final r st t) ≡ laid_final r st t
  final-laid-again st t h = by_test (stays (reached r st t)) refl
    where
      end : Text
      end = final_text r st.is_start t

      by_test : (b : Bool) → stays (reached r st t) ≡ b → laid_final r st (if b then t else end) ≡ (if b then t else end)
      by_test true e = ap (λ b. if b then t else end) e
      by_test false e =
          ap (λ q. if stays q then end else final_text r st.is_start end) (reached-by st end t (final-comments r st.is_start t h))
          ∙ ap (λ b. if b then end else final_text r st.is_start end) e
          ∙ final-again r st.is_start t h

pub laid_again : LaidAgain
laid_again r pad other d h =
    let once = laid_document r other d in
    let st = state_after r start d.statements in
    ap (λ ss. record once { statements = ss; final = laid_final r (state_after r start once.statements) once.final })
    (statements-again r pad other 0 d.final start d.statements h.0)
    ∙ ap (λ q. record (laid_document r pad d) { final = laid_final r q (laid_final r st d.final) })
    (state-again r pad other 0 d.final start d.statements h.0)
    ∙ ap (λ t. record (laid_document r pad d) { final = t }) (final-laid-again r st d.final h.1)

-- the spaces are found without those that were there
pads-again : (c : Comments) (r : Rules) (other : ℕ → Path → ℕ) (d : Document) → IsDocument d
    → pads_as c r (laid_document r other d) ≡ pads_as c r d
pads-again as_they_are r other d h = refl
pads-again (apart n) r other d h = refl
pads-again (aligned n) r other d h = ap (λ e. pad_in (pads_of r n e)) (laid_again r (λ _ _. 0) other d h)

pub formatted_again : FormattedAgain
formatted_again r d h =
    let pads = pads_as r.comments r d in
    ap (λ p. laid_document r p (formatted r d)) (pads-again r.comments r pads d h) ∙ laid_again r pads pads d h
