-- What the calls on comments leave, from what they find.
use Rattle.std.proofs.Common.{◌≡◌, refl, sym, ap, subst, ◌∙◌, ℕ, ◌+◌, arith, true, false, [], ◌++◌, take, drop, Option, Some, None}
use Rattle.std.proofs.Common.{append_assoc, append-nil}
use Rattle.std.specs.Prelude.{if◌then◌else◌, unwrap_or, take_while, is_some, option_and_then, Result, Ok, Err}
use Rattle.std.specs.Borrow.{Bor}
use Rattle.std.specs.Option.{option_copied}
use Rattle.std.specs.Str.{IsUtf8, IsCharBoundary}
use Rattle.std.proofs.lemmas.Str.{IsCharBoundary-before_ascii, IsCharBoundary-after_ascii}
use Rattle.toml_edit_model.specs.Text.{Text, line_feed, hash, space, one, has_byte}
use Rattle.toml_edit_model.specs.Mode.{Mode, shown_text}
use Rattle.toml_edit_model.specs.Trivia.{is_blank, comment, IsWholeTrivia}
use Rattle.toml_edit_model.specs.Tree.{Raw, owned, span, Decor, shown_side, shown_prefix, shown_suffix}
use Rattle.toml_edit_model.specs.Fits.{EndsLine}
use Rattle.toml_edit_model.specs.Comments.{first_line, after_first_line, last_newline, end_of_words, body_in, first_comment}
use Rattle.toml_edit_model.specs.Comments.{without_comments, with_comment_line, before_comment, with_first_comment, without_first_comment}
use Rattle.toml_edit_model.specs.Comments.{side_text, changed_side, with_comment_before, without_comments_before, with_comment_after}
use Rattle.toml_edit_laws.proofs.common.WhiteSpace.{shown-none}
use Rattle.toml_edit_repr.specs.CommentPlaces.{HasHashAt}
use Rattle.toml_edit_repr.specs.Comments.{PutsComment}
use Rattle.toml_edit_repr.specs.Views.{text_of}
use Rattle.toml_edit_repr.specs.declared.comments.CommentFault.{CommentFault}
use Rattle.toml_edit_repr.specs.declared.comments.CommentFault.TheVariants as faults
use Rattle.toml_edit_repr.proofs.CommentsInside.{with_comment-inside, without_comment-inside}
use Rattle.toml_edit_repr.proofs.CommentsSuit.{with_line-suits, without_lines-suits, with_comment-suits, without_comment-suits}

-- ---- one comment

pub hash-boundary : (l : Text) (n : ℕ) → HasHashAt l n → IsCharBoundary l n
hash-boundary l n h = IsCharBoundary-before_ascii l n h.within (omega (arith, h.byte))

pub comment-boundary : (l : Text) (n : ℕ) → IsUtf8 l → HasHashAt l n → IsCharBoundary l (n + 1)
comment-boundary l n utf8 h = IsCharBoundary-after_ascii l n utf8 h.within (omega (arith, h.byte))

pub body-found : (l x : Text) (n : ℕ) → HasHashAt l n → x ≡ drop (n + 1) l → Some x ≡ body_in l
body-found l x n h is = ap Some is ∙ sym h.body

before-is : (l : Text) (o : Option Text) → body_in l ≡ o
    → before_comment l ≡ (if is_some o then take_while is_blank l else take (end_of_words l) l ++ one space)
before-is l o e = ap (λ x. if is_some x then take_while is_blank l else take (end_of_words l) l ++ one space) e

pub before-hash : (l a : Text) (n : ℕ) → HasHashAt l n → a ≡ take n l → a ++ [] ≡ before_comment l
before-hash l a n h is = append-nil a ∙ is ∙ sym h.white ∙ sym (before-is l _ h.body)

pub before-none : (l a : Text) (n : ℕ) → body_in l ≡ None → n ≡ end_of_words l → a ≡ take n l → a ++ one space ≡ before_comment l
before-none l a n h place is = ap (λ u. u ++ one space) (is ∙ ap (λ k. take k l) place) ∙ sym (before-is l None h)

-- ---- texts that are joined

pub put-joined : (t l b s c a new : Text) → new ≡ b ++ (s ++ (one hash ++ (c ++ (a ++ [])))) → b ++ s ≡ before_comment l → l ≡ first_line t
    → a ≡ after_first_line t → new ≡ with_first_comment c t
put-joined t l b s c a new is before line after =
    is ∙ sym (append_assoc b s (one hash ++ (c ++ (a ++ []))))
    ∙ ap (λ u. u ++ (one hash ++ (c ++ (a ++ [])))) (before ∙ ap before_comment line)
    ∙ ap (λ u. before_comment (first_line t) ++ (comment c ++ u)) (append-nil a ∙ after)

pub add-joined : (t c end w new : Text) (n : ℕ) → new ≡ t ++ (one hash ++ (c ++ (end ++ (w ++ [])))) → end ≡ last_newline t → n
    ≡ end_of_words t
    → w ≡ drop n t → new ≡ with_comment_line c t
add-joined t c end w new n is ends place rest =
    is ∙ ap (λ u. t ++ (comment c ++ (u ++ (w ++ [])))) ends
    ∙ ap (λ u. t ++ (comment c ++ (last_newline t ++ u))) (append-nil w ∙ rest ∙ ap (λ k. drop k t) place)

-- ---- sides of a decor

pub side-text : (side : Option Raw) (r : Option (Bor Text)) (d x : Bor Text) → option_copied r ≡ option_and_then text_of side → x
    ≡ unwrap_or r d
    → d.now ≡ [] → x.now ≡ side_text side
side-text None None d x e is none = ap (λ (b : Bor Text). b.now) is ∙ none
side-text None (Some r) d x e is none = absurd (let clash : Some r.now ≡ None = e in cc)
side-text (Some (owned t)) None d x e is none = absurd (let clash : None ≡ Some t = e in cc)
side-text (Some (owned t)) (Some r) d x e is none =
    let same : Some r.now ≡ Some t = e in
    let inner : r.now ≡ t = cc in
    ap (λ (b : Bor Text). b.now) is ∙ inner
side-text (Some (span i j)) None d x e is none = ap (λ (b : Bor Text). b.now) is ∙ none
side-text (Some (span i j)) (Some r) d x e is none = absurd (let clash : Some r.now ≡ None = e in cc)

pub copied-some : (o : Option (Bor Text)) → is_some (option_copied o) ≡ is_some o
copied-some None = refl
copied-some (Some r) = refl

same-side : (side : Option Raw) → is_some (first_comment (side_text side)) ≡ false → changed_side without_first_comment side ≡ side
same-side None h = refl
same-side (Some (owned t)) h = ap (λ b. Some (owned (if b then after_first_line t else t))) h
same-side (Some (span i j)) h = refl

cut-side : (side : Option Raw) → is_some (first_comment (side_text side)) ≡ true
    → changed_side without_first_comment side ≡ Some (owned (after_first_line (side_text side)))
cut-side None h = absurd (let clash : false ≡ true = h in cc)
cut-side (Some (owned t)) h = ap (λ b. Some (owned (if b then after_first_line t else t))) h
cut-side (Some (span i j)) h = absurd (let clash : false ≡ true = h in cc)

pub nothing-removed : (d : Decor) → is_some (first_comment (side_text d.suffix)) ≡ false → d ≡ with_comment_after None d
nothing-removed d h = ap (λ (side : Option Raw). record d { suffix = side }) (sym (same-side d.suffix h))

pub comment-removed : (d : Decor) (a : Text) → is_some (first_comment (side_text d.suffix)) ≡ true → a
    ≡ after_first_line (side_text d.suffix)
    → record d { suffix = Some (owned a) } ≡ with_comment_after None d
comment-removed d a h is =
    ap (λ u. record d { suffix = Some (owned u) }) is ∙ ap (λ (side : Option Raw). record d { suffix = side }) (sym (cut-side d.suffix h))

lines-removed : (side : Option Raw) (t : Text) → Some t ≡ option_and_then text_of side → changed_side without_comments side
    ≡ Some (owned (without_comments t))
lines-removed None t e = absurd cc
lines-removed (Some (owned u)) t e = let same : u ≡ t = cc in ap (λ x. Some (owned (without_comments x))) same
lines-removed (Some (span i j)) t e = absurd cc

no-lines-removed : (side : Option Raw) → None ≡ option_and_then text_of side → changed_side without_comments side ≡ side
no-lines-removed None e = refl
no-lines-removed (Some (owned u)) e = absurd (let clash : None ≡ Some u = e in cc)
no-lines-removed (Some (span i j)) e = refl

-- a prefix that is set to what is made of its text
pub prefix-set : (old new : Decor) (body text made : Text) (raw : Raw) → new ≡ record old { prefix = Some raw } → raw ≡ owned made
    → made ≡ with_comment_line body text → text ≡ side_text old.prefix → new ≡ with_comment_before body old
prefix-set old new body text made raw set is from of =
    set ∙ ap (λ (r : Raw). record old { prefix = Some r }) is
    ∙ ap (λ (t : Text). record old { prefix = Some (owned t) }) (from ∙ ap (with_comment_line body) of)

pub prefix-cut : (old new : Decor) (text made : Text) (raw : Raw) → new ≡ record old { prefix = Some raw } → raw ≡ owned made
    → made ≡ without_comments text → Some text ≡ option_and_then text_of old.prefix → new ≡ without_comments_before old
prefix-cut old new text made raw set is from of =
    set ∙ ap (λ (r : Raw). record old { prefix = Some r }) is
    ∙ ap (λ (t : Text). record old { prefix = Some (owned t) }) from
    ∙ ap (λ (side : Option Raw). record old { prefix = side }) (sym (lines-removed old.prefix text of))

pub prefix-left : (old : Decor) → None ≡ option_and_then text_of old.prefix → old ≡ without_comments_before old
prefix-left old none = ap (λ (side : Option Raw). record old { prefix = side }) (sym (no-lines-removed old.prefix none))

-- ---- sides that suit their places

shown-side : (mode : Mode) (side : Option Raw) → shown_side mode [] side ≡ shown_text mode (side_text side)
shown-side mode None = sym (shown-none mode)
shown-side mode (Some (owned t)) = refl
shown-side mode (Some (span i j)) = sym (shown-none mode)

removed-suits : (mode : Mode) (side : Option Raw) → EndsLine mode (shown_side mode [] side)
    → EndsLine mode (shown_side mode [] (changed_side without_first_comment side))
removed-suits mode None g = g
removed-suits mode (Some (owned t)) g = without_comment-suits mode t g
removed-suits mode (Some (span i j)) g = g

pub set-suits : (b : Option Text) (old new : Decor) (r : Result (Unit {0}) CommentFault)
    → PutsComment b (with_comment_after b old) old new r
    → (mode : Mode) → EndsLine mode (shown_suffix mode [] old) → EndsLine mode (shown_suffix mode [] new)
set-suits b old new (Err faults.Text) h mode g = subst (λ (d : Decor). EndsLine mode (shown_suffix mode [] d)) (sym h.1) g
set-suits b old new (Err faults.Memory) h mode g = subst (λ (d : Decor). EndsLine mode (shown_suffix mode [] d)) (sym h.1) g
set-suits (Some body) old new (Ok u) h mode g =
    subst (λ (d : Decor). EndsLine mode (shown_suffix mode [] d)) (sym h.1)
    (with_comment-suits mode body (side_text old.suffix) h.0 (subst (EndsLine mode) (shown-side mode old.suffix) g))
set-suits None old new (Ok u) h mode g =
    subst (λ (d : Decor). EndsLine mode (shown_suffix mode [] d)) (sym h.1) (removed-suits mode old.suffix g)

removed-inside : (mode : Mode) (side : Option Raw) → has_byte line_feed (side_text side) ≡ true → IsWholeTrivia (shown_side mode [] side)
    → IsWholeTrivia (shown_side mode [] (changed_side without_first_comment side))
removed-inside mode None feed g = g
removed-inside mode (Some (owned t)) feed g = without_comment-inside mode t feed g
removed-inside mode (Some (span i j)) feed g = g

pub set-inside : (b : Option Text) (old new : Decor) (r : Result (Unit {0}) CommentFault)
    → PutsComment b (with_comment_after b old) old new r
    → (mode : Mode) → has_byte line_feed (side_text old.suffix) ≡ true → IsWholeTrivia (shown_suffix mode [] old)
    → IsWholeTrivia (shown_suffix mode [] new)
set-inside b old new (Err faults.Text) h mode feed g = subst (λ (d : Decor). IsWholeTrivia (shown_suffix mode [] d)) (sym h.1) g
set-inside b old new (Err faults.Memory) h mode feed g = subst (λ (d : Decor). IsWholeTrivia (shown_suffix mode [] d)) (sym h.1) g
set-inside (Some body) old new (Ok u) h mode feed g =
    subst (λ (d : Decor). IsWholeTrivia (shown_suffix mode [] d)) (sym h.1)
    (with_comment-inside mode body (side_text old.suffix) h.0 feed (subst IsWholeTrivia (shown-side mode old.suffix) g))
set-inside None old new (Ok u) h mode feed g =
    subst (λ (d : Decor). IsWholeTrivia (shown_suffix mode [] d)) (sym h.1) (removed-inside mode old.suffix feed g)

pub add-suits : (body : Text) (old new : Decor) (r : Result (Unit {0}) CommentFault)
    → PutsComment (Some body) (with_comment_before body old) old new r
    → (mode : Mode) → IsWholeTrivia (shown_prefix mode [] old) → IsWholeTrivia (shown_prefix mode [] new)
add-suits body old new (Err faults.Text) h mode g = subst (λ (d : Decor). IsWholeTrivia (shown_prefix mode [] d)) (sym h.1) g
add-suits body old new (Err faults.Memory) h mode g = subst (λ (d : Decor). IsWholeTrivia (shown_prefix mode [] d)) (sym h.1) g
add-suits body old new (Ok u) h mode g =
    subst (λ (d : Decor). IsWholeTrivia (shown_prefix mode [] d)) (sym h.1)
    (with_line-suits mode body (side_text old.prefix) h.0 (subst IsWholeTrivia (shown-side mode old.prefix) g))

lines-suit : (mode : Mode) (side : Option Raw) → IsWholeTrivia (shown_side mode [] side)
    → IsWholeTrivia (shown_side mode [] (changed_side without_comments side))
lines-suit mode None g = g
lines-suit mode (Some (owned t)) g = without_lines-suits mode t g
lines-suit mode (Some (span i j)) g = g

pub remove-suits : (old new : Decor) → new ≡ without_comments_before old
    → (mode : Mode) → IsWholeTrivia (shown_prefix mode [] old) → IsWholeTrivia (shown_prefix mode [] new)
remove-suits old new e mode g = subst (λ (d : Decor). IsWholeTrivia (shown_prefix mode [] d)) (sym e) (lines-suit mode old.prefix g)
