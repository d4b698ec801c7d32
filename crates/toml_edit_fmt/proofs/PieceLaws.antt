-- Pieces of a document, however its texts are cut.
use Rattle.std.proofs.Common.{◌≡◌, refl, sym, ap, ◌∙◌, ℕ, List, [], ◌∷◌, ◌++◌, append-nil, append_assoc}
use Rattle.std.specs.Prelude.{flat_map}
use Rattle.toml_edit_model.specs.Paths.{Path}
use Rattle.toml_edit_model.specs.Text.{Text}
use Rattle.toml_edit_fmt_laws.specs.Rules.{Comments, as_they_are, apart, aligned}
use Rattle.toml_edit_fmt_laws.specs.Laying.{columns, last_line}
use Rattle.toml_edit_fmt_laws.specs.Aligned.{Mark, Piece, words, place, marks}
use Rattle.toml_edit_fmt.proofs.FirstLaws.{last-append}

-- a place, and the text up to the next
pub record Stop : Type 0 where
  pub statement : ℕ
  pub path : Path
  pub text : Text

-- a text up to the first place, and the places
pub record Run : Type 0 where
  pub text : Text
  pub more : List Stop

-- places count where comments are aligned
abbrev stopped : Comments → ℕ → Path → Run → Run
stopped as_they_are n p x = x
stopped (apart k) n p x = x
stopped (aligned k) n p x =
    record { text = []; more = record { statement = n; path = p; text = x.text } ∷ x.more }

abbrev pub run_of : Comments → List Piece → Run
run_of c [] = record { text = []; more = [] }
run_of c (words t ∷ ps) = record { text = t ++ (run_of c ps).text; more = (run_of c ps).more }
run_of c (place n p ∷ ps) = stopped c n p (run_of c ps)

pub run-after : (c : Comments) (xs ys zs : List Piece) → run_of c ys ≡ run_of c zs → run_of c (xs ++ ys) ≡ run_of c (xs ++ zs)
run-after c [] ys zs e = e
run-after c (words t ∷ xs) ys zs e = ap (λ x. record { text = t ++ x.text; more = x.more }) (run-after c xs ys zs e)
run-after c (place n p ∷ xs) ys zs e = ap (stopped c n p) (run-after c xs ys zs e)

pub run-split : (c : Comments) (s t : Text) (ps : List Piece) → run_of c (words (s ++ t) ∷ ps) ≡ run_of c (words s ∷ words t ∷ ps)
run-split c s t ps = ap (λ u. record { text = u; more = (run_of c ps).more }) (append_assoc s t (run_of c ps).text)

-- ---- texts

abbrev pub pieces_text : List Piece → Text
pieces_text [] = []
pieces_text (words t ∷ ps) = t ++ pieces_text ps
pieces_text (place n p ∷ ps) = pieces_text ps

pub pieces_text-append : (xs ys : List Piece) → pieces_text (xs ++ ys) ≡ pieces_text xs ++ pieces_text ys
pieces_text-append [] ys = refl
pieces_text-append (words t ∷ xs) ys =
    ap (λ u. t ++ u) (pieces_text-append xs ys) ∙ sym (append_assoc t (pieces_text xs) (pieces_text ys))
pieces_text-append (place n p ∷ xs) ys = pieces_text-append xs ys

abbrev run_text : Run → Text
run_text x = x.text ++ flat_map (λ (s : Stop). s.text) x.more

text-of : (c : Comments) (ps : List Piece) → run_text (run_of c ps) ≡ pieces_text ps
text-of c [] = refl
text-of c (words t ∷ ps) =
    append_assoc t (run_of c ps).text (flat_map (λ (s : Stop). s.text) (run_of c ps).more) ∙ ap (λ u. t ++ u) (text-of c ps)
text-of as_they_are (place n p ∷ ps) = text-of as_they_are ps
text-of (apart k) (place n p ∷ ps) = text-of (apart k) ps
text-of (aligned k) (place n p ∷ ps) = text-of (aligned k) ps

pub same-text : (c : Comments) (xs ys : List Piece) → run_of c xs ≡ run_of c ys → pieces_text xs ≡ pieces_text ys
same-text c xs ys e = sym (text-of c xs) ∙ ap run_text e ∙ text-of c ys

-- ---- marks

abbrev run_marks : Text → Text → Text → List Stop → List Mark
run_marks line since t [] = []
run_marks line since t (s ∷ more) =
    record { statement = s.statement; path = s.path; columns = columns (last_line (line ++ t)); since = since ++ t }
    ∷ run_marks (last_line (line ++ t)) [] s.text more

shifted : (line since t u : Text) (more : List Stop)
    → run_marks (last_line (line ++ t)) (since ++ t) u more ≡ run_marks line since (t ++ u) more
shifted line since t u [] = refl
shifted line since t u (s ∷ more) =
    let here : last_line (last_line (line ++ t) ++ u) ≡ last_line (line ++ (t ++ u)) = last-append (line ++ t) u ∙ ap last_line (append_assoc line t u) in
    ap (λ v. record { statement = s.statement; path = s.path; columns = columns v; since = (since ++ t) ++ u } ∷ run_marks v [] s.text more) here
    ∙ ap (λ v. record { statement = s.statement; path = s.path; columns = columns (last_line (line ++ (t ++ u))); since = v } ∷ run_marks (last_line (line ++ (t ++ u))) [] s.text more) (append_assoc since t u)

last-again : (t : Text) → last_line (last_line t) ≡ last_line t
last-again t = ap last_line (sym (append-nil (last_line t))) ∙ last-append t [] ∙ ap last_line (append-nil t)

marks-of : (k : ℕ) (line since : Text) (ps : List Piece) → last_line line ≡ line
    → marks line since ps ≡ run_marks line since (run_of (aligned k) ps).text (run_of (aligned k) ps).more
marks-of k line since [] e = refl
marks-of k line since (words t ∷ ps) e =
    marks-of k (last_line (line ++ t)) (since ++ t) ps (last-again (line ++ t))
    ∙ shifted line since t (run_of (aligned k) ps).text (run_of (aligned k) ps).more
marks-of k line since (place n p ∷ ps) e =
    let x = run_of (aligned k) ps in
    let here : last_line (line ++ []) ≡ line = ap last_line (append-nil line) ∙ e in
    ap (λ ms. record { statement = n; path = p; columns = columns line; since = since } ∷ ms) (marks-of k line [] ps e)
    ∙ ap (λ v. record { statement = n; path = p; columns = columns v; since = since } ∷ run_marks v [] x.text x.more) (sym here)
    ∙ ap (λ v. record { statement = n; path = p; columns = columns (last_line (line ++ [])); since = v } ∷ run_marks (last_line (line ++ [])) [] x.text x.more) (sym (append-nil since))

pub same-marks : (k : ℕ) (xs ys : List Piece) → run_of (aligned k) xs ≡ run_of (aligned k) ys → marks [] [] xs ≡ marks [] [] ys
same-marks k xs ys e =
    marks-of k [] [] xs refl ∙ ap (λ x. run_marks [] [] x.text x.more) e ∙ sym (marks-of k [] [] ys refl)
