-- Statements whose suffix holds the CR of their newline stand in the text.
use Rattle.std.proofs.Common.{◌≡◌, refl, sym, ◌∙◌, ap, subst, ℕ, [], ◌∷◌, ◌++◌, append_assoc, codes, arith, ◌<◌, inl, inr}
use Rattle.toml_edit_model.specs.Text.{Text}
use Rattle.toml_edit_model.specs.Mode.{Mode, plain, exact, but_last, with_return}
use Rattle.toml_edit_model.specs.Trivia.{IsLineEnd, lf, crlf}
use Rattle.toml_edit_model.specs.Syntax.{Frame, Header, header, brackets_text, frame_text, path_text, statement_text}
use Rattle.toml_edit_laws.specs.Standing.{Stands}
use Rattle.toml_edit_laws.proofs.common.StandingLaws.{stands-left}
use Rattle.toml_edit_laws.proofs.common.LineEnds.{IsEnd}
use Rattle.toml_edit_laws.proofs.common.Edges.{StartsAscii, ascii_line_end, line_end-starts, newline-starts}

-- the last byte
abbrev last_of : Text → Text
last_of [] = []
last_of (c ∷ []) = c ∷ []
last_of (c ∷ d ∷ t) = last_of (d ∷ t)

last-split : (t : Text) → but_last t ++ last_of t ≡ t
last-split [] = refl
last-split (c ∷ []) = refl
last-split (c ∷ d ∷ t) = ap (λ u. c ∷ u) (last-split (d ∷ t))

-- what a newline leaves to follow the suffix
abbrev pub after-return : Mode → Text → Text
after-return plain end = end
after-return exact end = last_of end

pub return-split : (mode : Mode) (t end : Text) → t ++ end ≡ with_return mode t end ++ after-return mode end
return-split plain t end = refl
return-split exact t end = ap (λ u. t ++ u) (sym (last-split end)) ∙ sym (append_assoc t (but_last end) (last_of end))

abbrev pub returned-frame : Mode → Frame → Text → Frame
returned-frame mode f end = record f { trailing = with_return mode f.trailing end }

abbrev pub returned-header : Mode → Header → Text → Header
returned-header mode h end = record h { trailing = with_return mode h.trailing end }

-- the pair up to the end of its value
abbrev front : Frame → Text → Text
front f v = f.leading ++ (path_text f.path ++ (f.before_equals ++ (codes "=" ++ (f.after_equals ++ v))))

front-is : (f : Frame) (v t : Text)
    → front f v ++ t ≡ f.leading ++ (path_text f.path ++ (f.before_equals ++ (codes "=" ++ (f.after_equals ++ (v ++ t)))))
front-is f v t =
    append_assoc f.leading (path_text f.path ++ (f.before_equals ++ (codes "=" ++ (f.after_equals ++ v)))) t
    ∙ ap (λ x. f.leading ++ x)
    (append_assoc (path_text f.path) (f.before_equals ++ (codes "=" ++ (f.after_equals ++ v))) t
    ∙ ap (λ x. path_text f.path ++ x)
    (append_assoc f.before_equals (codes "=" ++ (f.after_equals ++ v)) t
    ∙ ap (λ x. f.before_equals ++ (codes "=" ++ x)) (append_assoc f.after_equals v t)))

pub frame-split : (mode : Mode) (f : Frame) (v end : Text) → frame_text f v ++ end ≡ frame_text (returned-frame mode f end) v
    ++ after-return mode end
frame-split mode f v end =
    let kept = with_return mode f.trailing end in
    let rest = after-return mode end in
    ap (λ x. x ++ end) (sym (front-is f v f.trailing))
    ∙ append_assoc (front f v) f.trailing end
    ∙ ap (λ x. front f v ++ x) (return-split mode f.trailing end)
    ∙ sym (append_assoc (front f v) kept rest)
    ∙ ap (λ x. x ++ rest) (front-is f v kept)

pub frame-returned : (mode : Mode) (source : Text) (i : ℕ) (f : Frame) (v end : Text) → Stands source i (frame_text f v ++ end)
    → Stands source i (frame_text (returned-frame mode f end) v)
frame-returned mode source i f v end h =
    stands-left source i (frame_text (returned-frame mode f end) v) (after-return mode end)
    (subst (Stands source i) (frame-split mode f v end) h)

pub header-returned : (mode : Mode) (source : Text) (i : ℕ) (h : Header) (end : Text) → Stands source i (statement_text (header h end))
    → Stands source i (statement_text (header (returned-header mode h end) (after-return mode end)))
header-returned mode source i h end g =
    subst (Stands source i) (ap (λ x. h.leading ++ (brackets_text h ++ x)) (return-split mode h.trailing end)) g

-- ---- they begin with ASCII bytes

-- the part of the newline that the suffix holds, and the rest
abbrev pub PartsStartAscii : Mode → Text → Type 0
PartsStartAscii plain end = StartsAscii end
PartsStartAscii exact end = StartsAscii (but_last end) × StartsAscii (last_of end)

pub parts-start : (mode : Mode) (end : Text) → IsEnd end → PartsStartAscii mode end
parts-start plain end (inl e) = newline-starts end e
parts-start plain end (inr e) = subst StartsAscii (sym e) (let none : 0 < 128 = omega arith in none)
parts-start exact end (inl (lf, e)) =
    subst (PartsStartAscii exact) (sym e) (let small : (0 < 128) × (10 < 128) = (omega arith, omega arith) in small)
parts-start exact end (inl (crlf, e)) =
    subst (PartsStartAscii exact) (sym e) (let small : (13 < 128) × (10 < 128) = (omega arith, omega arith) in small)
parts-start exact end (inr e) =
    subst (PartsStartAscii exact) (sym e) (let small : (0 < 128) × (0 < 128) = (omega arith, omega arith) in small)

pub returned-starts : (mode : Mode) (t end : Text) → IsLineEnd t → PartsStartAscii mode end → StartsAscii (with_return mode t end)
returned-starts plain t end h g = line_end-starts t h
returned-starts exact t end h g = ascii_line_end t (but_last end) h g.0

pub rest-starts : (mode : Mode) (end : Text) → PartsStartAscii mode end → StartsAscii (after-return mode end)
rest-starts plain end h = h
rest-starts exact end h = h.1
