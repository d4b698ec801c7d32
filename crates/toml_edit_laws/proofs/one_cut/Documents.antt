-- A text has at most one cut.
use Rattle.std.proofs.Common.{◌≡◌, Bool, true, false, List, [], ◌∷◌, ◌++◌, refl, sym, ap, ◌∙◌, inl, arith, append_assoc}
use Rattle.std.specs.Prelude.{map}
use Rattle.std.proofs.lemmas.Bool.Decides.{nat_tests}
use Rattle.std.proofs.lemmas.List.{append_cancel_left}
use Rattle.toml_edit_model.specs.Text.{Text, joined}
use Rattle.toml_edit_model.specs.Trivia.{IsNewline, IsFinalTrivia}
use Rattle.toml_edit_model.specs.Syntax.{Statement, key_line, header, Document, statement_text, mark_text, IsStatement, AreStatements}
use Rattle.toml_edit_laws.specs.OneCut.{OneCut}
use Rattle.toml_edit_laws.specs.reading.Runs.{first}
use Rattle.toml_edit_laws.proofs.reading.Begins.{StartsAscii, ascii_trivia, ascii_final}
use Rattle.toml_edit_laws.proofs.one_cut.Parts.{past, past_trivia, past_final, opens_stops}
use Rattle.toml_edit_laws.proofs.one_cut.Statements.{IsEnding, EndsAt, leading_of, statement_tail, statement_then, leading_is}
use Rattle.toml_edit_laws.proofs.one_cut.Statements.{statement_opens, one_statement}

abbrev pub statements_text : List Statement → Text
statements_text ss = joined (map statement_text ss)

-- ---- a list of statements

pub ends_weaken : (Weak Strong : Text → Type 0) (s : Statement) → ((end : Text) → Weak end → Strong end) → IsStatement Weak s
    → IsStatement Strong s
ends_weaken Weak Strong (key_line f v end) more (frame, value, ends) = (frame, value, more end ends)
ends_weaken Weak Strong (header h end) more (is, ends) = (is, more end ends)

-- the first of the statements, and the others
pub first_of : (s : Statement) (ss : List Statement) (final : Text) → AreStatements final (s ∷ ss) → EndsAt (statements_text ss ++ final) s
first_of s [] final is = is
first_of s (r ∷ rest) final (is, more) =
    ends_weaken IsNewline (λ end. IsEnding end (statements_text (r ∷ rest) ++ final)) s (λ end newline. inl newline) is

pub later_of : (s : Statement) (ss : List Statement) (final : Text) → AreStatements final (s ∷ ss) → AreStatements final ss
later_of s [] final is = tt
later_of s (r ∷ rest) final (is, more) = more

pub statements_then : (s : Statement) (ss : List Statement) (final : Text) → statements_text (s ∷ ss) ++ final ≡ statement_text s
    ++ (statements_text ss ++ final)
statements_then s ss final = append_assoc (statement_text s) (statements_text ss) final

-- a statement is no final trivia
not_final : (s : Statement) (rest t : Text) → EndsAt rest s → IsFinalTrivia t → t ≡ statement_text s ++ rest → ⊥
not_final s rest t is last e =
    let (c, cs, begins, opening) = statement_opens s rest is in
    let behind : past false (statement_text s ++ rest) ≡ c ∷ cs =
    ap (past false) (statement_then s rest) ∙ past_trivia (leading_of s) (statement_tail s rest) (leading_is s rest is)
    ∙ opens_stops (statement_tail s rest) (c, cs, begins, opening) ∙ begins in
    let clash : [] ≡ c ∷ cs = sym (past_final t last) ∙ ap (past false) e ∙ behind in
    cc

one_statements : (ss zs : List Statement) (f g : Text) → AreStatements f ss → AreStatements g zs → IsFinalTrivia f → IsFinalTrivia g
    → statements_text ss ++ f ≡ statements_text zs ++ g → (ss ≡ zs) × (f ≡ g)
one_statements [] [] f g are also last also_last e = (refl, e)
one_statements [] (z ∷ zs) f g are also last also_last e =
    absurd (not_final z (statements_text zs ++ g) f (first_of z zs g also) last (e ∙ statements_then z zs g))
one_statements (s ∷ ss) [] f g are also last also_last e =
    absurd (not_final s (statements_text ss ++ f) g (first_of s ss f are) also_last (sym e ∙ statements_then s ss f))
one_statements (s ∷ ss) (z ∷ zs) f g are also last also_last e =
    let (here, behind) = one_statement s z (statements_text ss ++ f) (statements_text zs ++ g) (first_of s ss f are) (first_of z zs g also)
    (sym (statements_then s ss f) ∙ e ∙ statements_then z zs g) in
    let (more, final) = one_statements ss zs f g (later_of s ss f are) (later_of z zs g also) last also_last behind in
    (ap (λ (x : Statement). x ∷ ss) here ∙ ap (λ (x : List Statement). z ∷ x) more, final)

-- ---- the byte order mark

-- statements begin with an ASCII byte
statements_ascii : (ss : List Statement) (final : Text) → AreStatements final ss → IsFinalTrivia final
    → StartsAscii (statements_text ss ++ final)
statements_ascii [] final are last = ascii_final final last
statements_ascii (s ∷ ss) final are last =
    let rest = statements_text ss ++ final in
    let is = first_of s ss final are in
    let (c, cs, begins, opening) = statement_opens s rest is in
    let low : StartsAscii (statement_tail s rest) = rw begins (grind (arith, nat_tests)) in
    rw (statements_then s ss final, statement_then s rest) (ascii_trivia (leading_of s) (statement_tail s rest) (leading_is s rest is) low)

unmarked : (t rest : Text) → StartsAscii t → t ≡ mark_text true ++ rest → ⊥
unmarked t rest low e =
    let high : first t ≡ 0xEF = ap first e in
    omega (arith, low, high)

one_mark : (b c : Bool) (t u : Text) → StartsAscii t → StartsAscii u → mark_text b ++ t ≡ mark_text c ++ u → (b ≡ c) × (t ≡ u)
one_mark true true t u low also_low e = (refl, append_cancel_left (mark_text true) t u e)
one_mark false false t u low also_low e = (refl, e)
one_mark true false t u low also_low e = absurd (unmarked u t also_low (sym e))
one_mark false true t u low also_low e = absurd (unmarked t u low e)

-- ---- documents

same_document : (d e : Document) → d.has_mark ≡ e.has_mark → d.statements ≡ e.statements → d.final ≡ e.final → d ≡ e
same_document d e mark statements final =
    ap (λ (x : Bool). record { has_mark = x; statements = d.statements; final = d.final }) mark
    ∙ ap (λ (x : List Statement). record { has_mark = e.has_mark; statements = x; final = d.final }) statements
    ∙ ap (λ (x : Text). record { has_mark = e.has_mark; statements = e.statements; final = x }) final

pub one_cut : OneCut
one_cut t d e ((are, last), is) ((also, also_last), also_is) =
    let (mark, behind) = one_mark d.has_mark e.has_mark (statements_text d.statements ++ d.final) (statements_text e.statements ++ e.final)
    (statements_ascii d.statements d.final are last) (statements_ascii e.statements e.final also also_last) (is ∙ sym also_is) in
    let (statements, final) = one_statements d.statements e.statements d.final e.final are also last also_last behind in
    same_document d e mark statements final
