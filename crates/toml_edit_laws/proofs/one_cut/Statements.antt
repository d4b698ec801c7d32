-- Equal texts have equal statements in front of what follows them.
use Rattle.std.proofs.Common.{◌≡◌, Bool, true, false, not, ◌==◌, [], ◌∷◌, ◌++◌, ◌⊎◌, refl, sym, ap, ◌∙◌, inl, inr, arith, append_assoc}
use Rattle.std.proofs.Common.{append-nil}
use Rattle.std.specs.List.{list_all}
use Rattle.std.proofs.lemmas.Bool.{and_parts, false≢true}
use Rattle.std.proofs.lemmas.Bool.Decides.{nat_tests}
use Rattle.std.proofs.lemmas.List.{append_cancel_left}
use Rattle.toml_edit_model.specs.Text.{Text}
use Rattle.toml_edit_model.specs.Trivia.{Each, is_blank, is_visible, IsWhiteSpace, comment, lf, crlf, IsNewline, IsLineEnd, IsWholeTrivia}
use Rattle.toml_edit_model.specs.Syntax.{Frame, Value, Header, Statement, key_line, header, path_text, frame_text, value_text}
use Rattle.toml_edit_model.specs.Syntax.{opening_brackets, closing_brackets, statement_text, IsFrame, IsValue, IsHeader, IsStatement}
use Rattle.toml_edit_laws.specs.reading.Runs.{first}
use Rattle.toml_edit_laws.specs.reading.ScalarReading.{ends_scalar}
use Rattle.toml_edit_laws.proofs.reading.WordLaws.{each_weaken}
use Rattle.toml_edit_laws.proofs.one_cut.Parts.{one_run, one_trivia, blank_first, Opens, opens_stops, opens_unblank, ends_path, one_path}
use Rattle.toml_edit_laws.proofs.one_cut.Parts.{path_opens, path_keyed}
use Rattle.toml_edit_laws.proofs.one_cut.Values.{behind_trivia, same_frame, one_head, frame_then, value_opens, one_value}

-- ---- the end of a line

-- a newline, or nothing at the end
abbrev pub IsEnding : Text → Text → Type 0
IsEnding t rest = IsNewline t ⊎ ((t ≡ []) × (rest ≡ []))

pub ending_first : (t rest : Text) → IsEnding t rest → is_visible (first (t ++ rest)) ≡ false
ending_first t rest (inl (lf, same)) = rw same refl
ending_first t rest (inl (crlf, same)) = rw same refl
ending_first t rest (inr (nothing, ended)) = rw (nothing, ended) refl

pub ending_ends : (t rest : Text) → IsEnding t rest → ends_scalar (t ++ rest) ≡ true
ending_ends t rest (inl (lf, same)) = rw same refl
ending_ends t rest (inl (crlf, same)) = rw same refl
ending_ends t rest (inr (nothing, ended)) = rw (nothing, ended) refl

white_visible : (t : Text) → IsWhiteSpace t → Each is_visible t
white_visible = each_weaken is_blank is_visible (λ c h. grind (arith, nat_tests))

visible_append : (t u : Text) → Each is_visible t → Each is_visible u → Each is_visible (t ++ u)
visible_append [] u h g = g
visible_append (c ∷ t) u h g = let (here, more) = and_parts (is_visible c) (list_all is_visible t) h in rw here (visible_append t u more g)

line_end_visible : (t : Text) → IsLineEnd t → Each is_visible t
line_end_visible t (white, none, each, inl empty, whole) =
    let same : t ≡ white = whole ∙ ap (λ (x : Text). white ++ x) empty ∙ append-nil white in
    rw same (white_visible white each)
line_end_visible t (white, last, each, inr (body, visible, is), whole) =
    let same : t ≡ white ++ comment body = whole ∙ ap (λ (x : Text). white ++ x) is in
    rw same (visible_append white (comment body) (white_visible white each) visible)

pub blank_ends : (b rest : Text) → IsWhiteSpace b → ends_scalar rest ≡ true → ends_scalar (b ++ rest) ≡ true
blank_ends [] rest each h = h
blank_ends (c ∷ cs) rest each h =
    let (white, more) = and_parts (is_blank c) (list_all is_blank cs) each in
    rw white (blank_ends cs rest more h)

pub line_end_ends : (t rest : Text) → IsLineEnd t → ends_scalar rest ≡ true → ends_scalar (t ++ rest) ≡ true
line_end_ends t rest (white, none, each, inl empty, whole) stop =
    let same : t ++ rest ≡ white ++ rest = ap (λ (x : Text). x ++ rest) (whole ∙ ap (λ (x : Text). white ++ x) empty ∙ append-nil white) in
    ap ends_scalar same ∙ blank_ends white rest each stop
line_end_ends t rest (white, last, each, inr (body, visible, is), whole) stop =
    let same : t ++ rest ≡ white ++ (35 ∷ (body ++ rest)) = ap (λ (x : Text). x ++ rest) (whole ∙ ap (λ (x : Text). white ++ x) is)
    ∙ append_assoc white (comment body) rest in
    ap ends_scalar same ∙ blank_ends white (35 ∷ (body ++ rest)) each refl

one_newline : (t u r q : Text) → IsEnding t r → IsEnding u q → t ++ r ≡ u ++ q → t ≡ u
one_newline t u r q (inl (lf, is)) (inl (lf, also)) e = is ∙ sym also
one_newline t u r q (inl (crlf, is)) (inl (crlf, also)) e = is ∙ sym also
one_newline t u r q (inl (lf, is)) (inl (crlf, also)) e =
    let clash : 10 ∷ r ≡ 13 ∷ 10 ∷ q = sym (ap (λ (x : Text). x ++ r) is) ∙ e ∙ ap (λ (x : Text). x ++ q) also in
    absurd cc
one_newline t u r q (inl (crlf, is)) (inl (lf, also)) e =
    let clash : 13 ∷ 10 ∷ r ≡ 10 ∷ q = sym (ap (λ (x : Text). x ++ r) is) ∙ e ∙ ap (λ (x : Text). x ++ q) also in
    absurd cc
one_newline t u r q (inl (lf, is)) (inr (none, ended)) e =
    let clash : 10 ∷ r ≡ [] = sym (ap (λ (x : Text). x ++ r) is) ∙ e ∙ ap (λ (x : Text). x ++ q) none ∙ ended in
    absurd cc
one_newline t u r q (inl (crlf, is)) (inr (none, ended)) e =
    let clash : 13 ∷ 10 ∷ r ≡ [] = sym (ap (λ (x : Text). x ++ r) is) ∙ e ∙ ap (λ (x : Text). x ++ q) none ∙ ended in
    absurd cc
one_newline t u r q (inr (none, ended)) (inl (lf, also)) e =
    let clash : 10 ∷ q ≡ [] = sym (ap (λ (x : Text). x ++ q) also) ∙ sym e ∙ ap (λ (x : Text). x ++ r) none ∙ ended in
    absurd cc
one_newline t u r q (inr (none, ended)) (inl (crlf, also)) e =
    let clash : 13 ∷ 10 ∷ q ≡ [] = sym (ap (λ (x : Text). x ++ q) also) ∙ sym e ∙ ap (λ (x : Text). x ++ r) none ∙ ended in
    absurd cc
one_newline t u r q (inr (none, ended)) (inr (also_none, also_ended)) e = none ∙ sym also_none

one_end : (s t u v r q : Text) → IsLineEnd s → IsLineEnd t → IsEnding u r → IsEnding v q → s ++ (u ++ r) ≡ t ++ (v ++ q) → (s ≡ t) × (u ≡ v)
    × (r ≡ q)
one_end s t u v r q is also ends also_ends e =
    let (lines, rest) = one_run is_visible s t (u ++ r) (v
    ++ q) (line_end_visible s is) (line_end_visible t also) (ending_first u r ends) (ending_first v q also_ends) e in
    let newlines = one_newline u v r q ends also_ends rest in
    (lines, newlines, append_cancel_left v r q (ap (λ (x : Text). x ++ r) (sym newlines) ∙ rest))

-- ---- headers

-- a header behind its trivia, and then this
abbrev header_tail : Header → Text → Text → Text
header_tail h end rest = opening_brackets h.is_array
    ++ (h.opening ++ (path_text h.path ++ (h.closing ++ (closing_brackets h.is_array ++ (h.trailing ++ (end ++ rest))))))

regroup_header : (a b c d e f g h rest : Text) → (a ++ ((b ++ (c ++ (d ++ (e ++ f)))) ++ (g ++ h))) ++ rest ≡ a
    ++ (b ++ (c ++ (d ++ (e ++ (f ++ (g ++ (h ++ rest)))))))
regroup_header a b c d e f g h rest = simp append_assoc

same_header : (h k : Header) → h.leading ≡ k.leading → h.is_array ≡ k.is_array → h.opening ≡ k.opening → h.path ≡ k.path → h.closing
    ≡ k.closing → h.trailing ≡ k.trailing → h ≡ k
same_header h k leading is_array opening path closing trailing =
    ap (λ (x : Text). record {
      leading = x;
      is_array = h.is_array;
      opening = h.opening;
      path = h.path;
      closing = h.closing;
      trailing =
          h.trailing;
    }) leading
    ∙ ap (λ (x : Bool). record {
      leading = k.leading;
      is_array = x;
      opening = h.opening;
      path = h.path;
      closing = h.closing;
      trailing =
          h.trailing;
    }) is_array
    ∙ ap (λ (x : Text). record {
      leading = k.leading;
      is_array = k.is_array;
      opening = x;
      path = h.path;
      closing = h.closing;
      trailing =
          h.trailing;
    }) opening
    ∙ ap (λ x. record {
      leading = k.leading;
      is_array = k.is_array;
      opening = k.opening;
      path = x;
      closing = h.closing;
      trailing =
          h.trailing;
    }) path
    ∙ ap (λ (x : Text). record {
      leading = k.leading;
      is_array = k.is_array;
      opening = k.opening;
      path = k.path;
      closing = x;
      trailing =
          h.trailing;
    }) closing
    ∙ ap (λ (x : Text). record {
      leading = k.leading;
      is_array = k.is_array;
      opening = k.opening;
      path = k.path;
      closing =
          k.closing;
      trailing = x;
    }) trailing

one_opening : (i j : Bool) (r q : Text) → (first r == 91) ≡ false → (first q == 91) ≡ false → opening_brackets i ++ r ≡ opening_brackets j
    ++ q → (i ≡ j) × (r ≡ q)
one_opening true true r q stop halt e = (refl, append_cancel_left (opening_brackets true) r q e)
one_opening false false r q stop halt e = (refl, append_cancel_left (opening_brackets false) r q e)
one_opening true false r q stop halt e =
    let behind : 91 ∷ r ≡ q = append_cancel_left (opening_brackets false) (91 ∷ r) q e in
    absurd (false≢true (sym halt ∙ ap (λ (x : Text). first x == 91) (sym behind)))
one_opening false true r q stop halt e =
    let behind : r ≡ 91 ∷ q = append_cancel_left (opening_brackets false) r (91 ∷ q) e in
    absurd (false≢true (sym stop ∙ ap (λ (x : Text). first x == 91) behind))

-- what stands behind the opening brackets is no bracket
inside_first : (white rest : Text) → IsWhiteSpace white → (first rest == 91) ≡ false → (first (white ++ rest) == 91) ≡ false
inside_first white rest each stop =
    turned (first (white ++ rest) == 91) (blank_first (λ c. not (c == 91)) white rest (λ c h. grind (arith, nat_tests)) each (ap not stop))
  where
    turned : (b : Bool) → not b ≡ true → b ≡ false
    turned true h = sym h
    turned false h = refl

closing_ends : (i : Bool) (rest : Text) → (cs : Text) × (closing_brackets i ++ rest ≡ 93 ∷ cs)
closing_ends true rest = (93 ∷ rest, refl)
closing_ends false rest = (rest, refl)

pub opening_opens : (i : Bool) (rest : Text) → Opens (opening_brackets i ++ rest)
opening_opens true rest = (91, 91 ∷ rest, refl, refl)
opening_opens false rest = (91, rest, refl, refl)

header_opens : (h : Header) (end rest : Text) → Opens (header_tail h end rest)
header_opens h end rest =
    opening_opens h.is_array (h.opening ++ (path_text h.path
    ++ (h.closing ++ (closing_brackets h.is_array ++ (h.trailing ++ (end ++ rest))))))

one_header : (h k : Header) (u v r q : Text) → IsHeader h → IsHeader k → IsEnding u r → IsEnding v q → h.leading ++ header_tail h u r
    ≡ k.leading ++ header_tail k v q → (h ≡ k) × (u ≡ v) × (r ≡ q)
one_header h k u v r q (spaced, path) (also_spaced, also_path) ends also_ends e =
    let last = h.trailing ++ (u ++ r) in
    let also_last = k.trailing ++ (v ++ q) in
    let close = closing_brackets h.is_array ++ last in
    let also_close = closing_brackets k.is_array ++ also_last in
    let keys = path_text h.path ++ (h.closing ++ close) in
    let also_keys = path_text k.path ++ (k.closing ++ also_close) in
    let (cs, closes) = closing_ends h.is_array last in
    let (ds, also_closes) = closing_ends k.is_array also_last in
    let (leading, brackets) = one_trivia h.leading k.leading (header_tail h u r) (header_tail k v q) spaced.leading also_spaced.leading
    (opens_stops (header_tail h u r) (header_opens h u r)) (opens_stops (header_tail k v q) (header_opens k v q)) e in
    let (is_array, inside) = one_opening h.is_array k.is_array (h.opening ++ keys) (k.opening ++ also_keys)
    (inside_first h.opening keys spaced.opening (path_keyed (λ c. c == 91) h.path (h.closing
    ++ close) (λ c h. grind (arith, nat_tests)) path))
    (inside_first k.opening also_keys also_spaced.opening (path_keyed (λ c. c == 91) k.path (k.closing
    ++ also_close) (λ c h. grind (arith, nat_tests)) also_path)) brackets in
    let (opening, paths) = one_run is_blank h.opening k.opening keys also_keys spaced.opening also_spaced.opening
    (opens_unblank keys (path_opens h.path (h.closing ++ close) path))
    (opens_unblank also_keys (path_opens k.path (k.closing ++ also_close) also_path)) inside in
    let (path_same, closings) =
    one_path h.path k.path (h.closing ++ close) (k.closing ++ also_close) path also_path spaced.segments also_spaced.segments
    (rw closes (ends_path h.closing cs 93 spaced.closing refl refl refl))
    (rw also_closes (ends_path k.closing ds 93 also_spaced.closing refl refl refl)) paths in
    let (closing, behind) =
    one_run is_blank h.closing k.closing close also_close spaced.closing also_spaced.closing
    (ap (λ (x : Text). is_blank (first x)) closes) (ap (λ (x : Text). is_blank (first x)) also_closes) closings in
    let lasts : last ≡ also_last =
    append_cancel_left (closing_brackets k.is_array) last also_last (ap (λ (x : Bool). closing_brackets x ++ last) (sym is_array)
    ∙ behind) in
    let (trailing, newline, rest) = one_end h.trailing k.trailing u v r q spaced.trailing also_spaced.trailing ends also_ends lasts in
    (same_header h k leading is_array opening path_same closing trailing, newline, rest)

-- ---- statements

one_key_line : (f g : Frame) (v w : Value) (s t r q : Text) → IsFrame IsLineEnd f → IsFrame IsLineEnd g → IsValue v → IsValue w
    → IsEnding s r → IsEnding t q
    → f.leading ++ behind_trivia f (value_text v ++ (f.trailing ++ (s ++ r))) ≡ g.leading
    ++ behind_trivia g (value_text w ++ (g.trailing ++ (t ++ q))) → (f ≡ g) × (v ≡ w) × (s ≡ t) × (r ≡ q)
one_key_line f g v w s t r q frame also_frame is also ends also_ends e =
    let more = f.trailing ++ (s ++ r) in
    let also_more = g.trailing ++ (t ++ q) in
    let head = one_head IsLineEnd f g (value_text v ++ more) (value_text w
    ++ also_more) frame also_frame (value_opens v more is) (value_opens w also_more also) e in
    let (value, behind) = one_value v w more also_more is also (line_end_ends f.trailing (s ++ r) frame.0.trailing (ending_ends s r ends))
    (line_end_ends g.trailing (t ++ q) also_frame.0.trailing (ending_ends t q also_ends)) head.rest in
    let (trailing, newline, rest) = one_end f.trailing g.trailing s t r q frame.0.trailing also_frame.0.trailing ends also_ends behind in
    (same_frame f g head.leading head.path head.before head.after trailing, value, newline, rest)

-- a key line is no header
line_apart : (f : Frame) (h : Header) (v t r q : Text) → IsFrame IsLineEnd f → IsHeader h → f.leading ++ behind_trivia f v ≡ h.leading
    ++ header_tail h t q → ⊥
line_apart f h v t r q frame is e =
    let signs = f.before_equals ++ (61 ∷ (f.after_equals ++ v)) in
    let (leading, tails) = one_trivia f.leading h.leading (behind_trivia f v) (header_tail h t q) frame.0.leading is.0.leading
    (opens_stops (behind_trivia f v) (path_opens f.path signs frame.1)) (opens_stops (header_tail h t q) (header_opens h t q)) e in
    let keyed = path_keyed (λ c. c == 91) f.path signs (λ c h. grind (arith, nat_tests)) frame.1 in
    false≢true (sym keyed ∙ ap (λ (x : Text). first x == 91) tails
    ∙ bracket h.is_array (h.opening ++ (path_text h.path ++ (h.closing ++ (closing_brackets h.is_array ++ (h.trailing ++ (t ++ q)))))))
  where
    bracket : (i : Bool) (rest : Text) → (first (opening_brackets i ++ rest) == 91) ≡ true
    bracket true rest = refl
    bracket false rest = refl

-- the statement in the grammar, where this follows it
abbrev pub EndsAt : Text → Statement → Type 0
EndsAt rest s = IsStatement (λ end. IsEnding end rest) s

abbrev pub leading_of : Statement → Text
leading_of (key_line f v end) = f.leading
leading_of (header h end) = h.leading

-- the parts behind the trivia, and then this
abbrev pub statement_tail : Statement → Text → Text
statement_tail (key_line f v end) rest = behind_trivia f (value_text v ++ (f.trailing ++ (end ++ rest)))
statement_tail (header h end) rest = header_tail h end rest

pub statement_then : (s : Statement) (rest : Text) → statement_text s ++ rest ≡ leading_of s ++ statement_tail s rest
statement_then (key_line f v end) rest = append_assoc (frame_text f (value_text v)) end rest ∙ frame_then f (value_text v) (end ++ rest)
statement_then (header h end) rest =
    regroup_header h.leading (opening_brackets h.is_array) h.opening (path_text h.path) h.closing (closing_brackets h.is_array) h.trailing
    end rest

pub leading_is : (s : Statement) (rest : Text) → EndsAt rest s → IsWholeTrivia (leading_of s)
leading_is (key_line f v end) rest (frame, value, ending) = frame.0.leading
leading_is (header h end) rest (is, ending) = is.0.leading

pub statement_opens : (s : Statement) (rest : Text) → EndsAt rest s → Opens (statement_tail s rest)
statement_opens (key_line f v end) rest (frame, value, ending) =
    path_opens f.path (f.before_equals ++ (61 ∷ (f.after_equals ++ (value_text v ++ (f.trailing ++ (end ++ rest)))))) frame.1
statement_opens (header h end) rest (is, ending) = header_opens h end rest

tails_one : (s z : Statement) (r q : Text) → EndsAt r s → EndsAt q z → leading_of s ++ statement_tail s r ≡ leading_of z
    ++ statement_tail z q → (s ≡ z) × (r ≡ q)
tails_one (key_line f v s) (key_line g w t) r q (frame, is, ends) (also_frame, also, also_ends) e =
    let (frames, value, newline, rest) = one_key_line f g v w s t r q frame also_frame is also ends also_ends e in
    (ap (λ (x : Frame). key_line x v s) frames ∙ ap (λ (x : Value). key_line g x s) value ∙ ap (key_line g w) newline, rest)
tails_one (header h s) (header k t) r q (is, ends) (also, also_ends) e =
    let (headers, newline, rest) = one_header h k s t r q is also ends also_ends e in
    (ap (λ (x : Header). header x s) headers ∙ ap (header k) newline, rest)
tails_one (key_line f v s) (header k t) r q (frame, is, ends) (also, also_ends) e =
    absurd (line_apart f k (value_text v ++ (f.trailing ++ (s ++ r))) t r q frame also e)
tails_one (header h s) (key_line g w t) r q (is, ends) (frame, also, also_ends) e =
    absurd (line_apart g h (value_text w ++ (g.trailing ++ (t ++ q))) s q r frame is (sym e))

pub one_statement : (s z : Statement) (r q : Text) → EndsAt r s → EndsAt q z → statement_text s ++ r ≡ statement_text z ++ q → (s ≡ z)
    × (r ≡ q)
one_statement s z r q is also e = tails_one s z r q is also (sym (statement_then s r) ∙ e ∙ statement_then z q)
