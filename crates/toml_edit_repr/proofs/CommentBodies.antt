-- The comments of whole trivia, line by line, are those of its pieces.
use Rattle.std.proofs.Common.{◌≡◌, refl, sym, ap, ◌∙◌, ℕ, ◌==◌, inl, inr, Bool, true, false, not, List, [], ◌∷◌, ◌++◌, Some, None}
use Rattle.std.proofs.Common.{append_assoc, append-nil}
use Rattle.std.specs.Prelude.{if◌then◌else◌, take_while}
use Rattle.std.specs.List.{before_first, cons_option, filter_map, flat_map, AllByRecursion}
use Rattle.std.proofs.lemmas.List.Sums.{take_while-cons}
use Rattle.toml_edit_model.specs.Text.{Text, line_feed, carriage_return, hash, newline}
use Rattle.toml_edit_model.specs.Mode.{exact, ends_in_return, but_last, line_end}
use Rattle.toml_edit_model.specs.Trivia.{is_blank, is_visible, Each, lf, crlf, comment, Piece, blank, break, remark, piece_text, IsPiece}
use Rattle.toml_edit_model.specs.Trivia.{IsLineEnd}
use Rattle.toml_edit_model.specs.Comments.{begun_with, lines, first_line, body_in, first_comment, comments, bodies, AreBodies}
use Rattle.toml_edit_laws.proofs.common.Each.{each-append}
use Rattle.toml_edit_laws.proofs.common.LineEnds.{ended}
use Rattle.toml_edit_laws.proofs.common.Trivia.{no-byte}
use Rattle.toml_edit_repr.proofs.CommentLines.{lines-other}
use Rattle.toml_edit_repr.proofs.CommentsSuit.{not_feed, NoFeed, visible-feed, lines-run, before-feed}

-- ---- a blank before a line

no-feed-blank : (c : ℕ) → is_blank c ≡ true → (c == line_feed) ≡ false
no-feed-blank c h = no-byte is_blank line_feed (λ e. let clash : is_blank line_feed ≡ true = e in cc) c h

no-return-blank : (c : ℕ) → is_blank c ≡ true → (c == carriage_return) ≡ false
no-return-blank c h = no-byte is_blank carriage_return (λ e. let clash : is_blank carriage_return ≡ true = e in cc) c h

line_end-cons : (c : ℕ) (t : Text) → (c == carriage_return) ≡ false → line_end exact (c ∷ t) ≡ c ∷ line_end exact t
line_end-cons c [] h = ap (λ b. if b then [] else c ∷ []) h
line_end-cons c (d ∷ t) h = by_test (ends_in_return (d ∷ t))
  where
    by_test : (b : Bool) → (if b then c ∷ but_last (d ∷ t) else c ∷ d ∷ t) ≡ c ∷ (if b then but_last (d ∷ t) else d ∷ t)
    by_test true = refl
    by_test false = refl

before-cons : (c : ℕ) (t : Text) → (c == line_feed) ≡ false → before_first (λ x. x == line_feed) (c ∷ t) ≡ c
    ∷ before_first (λ x. x == line_feed) t
before-cons c t h =
    take_while-cons not_feed c t ∙ ap (λ b. if not b then c ∷ take_while not_feed t else []) h

first_comment-blank : (c : ℕ) (t : Text) → is_blank c ≡ true → first_comment (c ∷ t) ≡ first_comment t
first_comment-blank c t h =
    ap (λ u. body_in (line_end exact u)) (before-cons c t (no-feed-blank c h))
    ∙ ap body_in (line_end-cons c (before_first (λ x. x == line_feed) t) (no-return-blank c h))
    ∙ ap (λ b. if b then body_in (first_line t) else (if c == hash then Some (first_line t) else None)) h

comments-blank : (c : ℕ) (ls : List Text) → is_blank c ≡ true → filter_map first_comment (begun_with c ls) ≡ filter_map first_comment ls
comments-blank c [] h = ap (λ o. cons_option o []) (first_comment-blank c [] h)
comments-blank c (l ∷ ls) h = ap (λ o. cons_option o (filter_map first_comment ls)) (first_comment-blank c l h)

-- ---- a comment on its line

comment-end : (body : Text) → Each is_visible body → IsLineEnd (comment body)
comment-end body h = ([], comment body, refl, inr (body, h, refl), refl)

comment-lf : (body : Text) → Each is_visible body → first_comment (comment body ++ newline) ≡ Some body
comment-lf body h =
    ap (λ u. body_in (line_end exact u)) (before-feed (comment body) [] (visible-feed body h) ∙ sym (append-nil (comment body)))
    ∙ ap body_in (ended exact (comment body) [] (comment-end body h) (inr refl)).trailing

comment-crlf : (body : Text) → Each is_visible body → first_comment ((comment body ++ (carriage_return ∷ [])) ++ newline) ≡ Some body
comment-crlf body h =
    ap (λ u. body_in (line_end exact u))
    (before-feed (comment body ++ (carriage_return ∷ [])) [] (each-append not_feed (comment body) (carriage_return
    ∷ []) (visible-feed body h) refl))
    ∙ ap body_in (ended exact (comment body) (carriage_return ∷ newline) (comment-end body h) (inl (crlf, refl))).trailing

comments-run : (u t body : Text) → NoFeed u → first_comment (u ++ newline) ≡ Some body → comments (u ++ (line_feed ∷ t)) ≡ body ∷ comments t
comments-run u t body h e = ap (filter_map first_comment) (lines-run u t h) ∙ ap (λ o. cons_option o (comments t)) e

-- ---- all pieces

pub comments-pieces : (ps : List Piece) → AllByRecursion IsPiece ps → comments (flat_map piece_text ps) ≡ bodies ps
comments-pieces [] h = refl
comments-pieces (blank c ∷ ps) h =
    let rest = flat_map piece_text ps in
    ap (filter_map first_comment) (lines-other c rest (no-feed-blank c h.0)) ∙ comments-blank c (lines rest) h.0 ∙ comments-pieces ps h.1
comments-pieces (break lf ∷ ps) h = comments-pieces ps h.1
comments-pieces (break crlf ∷ ps) h = comments-pieces ps h.1
comments-pieces (remark body lf ∷ ps) h =
    let rest = flat_map piece_text ps in
    ap comments (append_assoc (comment body) newline rest)
    ∙ comments-run (comment body) rest body (visible-feed body h.0) (comment-lf body h.0)
    ∙ ap (λ cs. body ∷ cs) (comments-pieces ps h.1)
comments-pieces (remark body crlf ∷ ps) h =
    let rest = flat_map piece_text ps in
    let run = comment body ++ (carriage_return ∷ []) in
    ap comments (append_assoc (comment body) (carriage_return ∷ newline) rest
    ∙ sym (append_assoc (comment body) (carriage_return ∷ []) (line_feed ∷ rest)))
    ∙ comments-run run rest body (each-append not_feed (comment body) (carriage_return ∷ []) (visible-feed body h.0) refl)
    (comment-crlf body h.0)
    ∙ ap (λ cs. body ∷ cs) (comments-pieces ps h.1)

pub are-bodies : (t : Text) (found : List Text) → found ≡ comments t → AreBodies t found
are-bodies t found e = λ ps each is. e ∙ ap comments is ∙ comments-pieces ps each
