-- White space, the sign of a pair, the end of a line and newlines: what is read is that, and that is read again.
use Rattle.std.proofs.Common.{◌≡◌, ℕ, suc, ◌-◌, Bool, true, false, ◌==◌, ◌&&◌, [], ◌∷◌, ◌++◌, length, drop, take, Some, refl, sym, ap}
use Rattle.std.proofs.Common.{subst, ◌∙◌, inl, inr, arith, append_assoc, append-nil, take_at, drop_at, eqb-true}
use Rattle.std.specs.List.{prefix_len, list_all}
use Rattle.std.proofs.lemmas.Bool.{cases_Bool, and_parts}
use Rattle.std.proofs.lemmas.Bool.Decides.{nat_tests}
use Rattle.std.proofs.lemmas.List.{length-append}
use Rattle.toml_edit_model.specs.Text.{Text}
use Rattle.toml_edit_model.specs.Trivia.{is_blank, is_visible, lf, crlf, comment, IsWhiteSpace, IsLineEnd}
use Rattle.toml_edit_laws.specs.reading.Runs.{first}
use Rattle.toml_edit_syntax.specs.Scanning.{front, equals_at, line_end_rest, newline_rest}
use Rattle.toml_edit_laws.proofs.reading.Steps.{chosen, guard_some, starts, split_parts}
use Rattle.toml_edit_laws.proofs.reading.RunLaws.{Each-run, prefix_len-run}
use Rattle.toml_edit_laws.proofs.one_cut.Statements.{IsEnding}

-- what stands before the rest
pub front_is : (t rest : Text) → front (t ++ rest) rest ≡ t
front_is t rest =
    let len : length t ≡ length (t ++ rest) - length rest = omega (arith, length-append t rest) in
    take_at t rest _ len

pub front_of : (text t rest : Text) → text ≡ t ++ rest → front text rest ≡ t
front_of text t rest e = ap (λ (x : Text). front x rest) e ∙ front_is t rest

-- ---- between the parts

-- what stands at the front of blanks and then of this
pub blank_first : (p : ℕ → Bool) (b rest : Text) → ((c : ℕ) → is_blank c ≡ true → p c ≡ true) → IsWhiteSpace b → p (first rest) ≡ true
    → p (first (b ++ rest)) ≡ true
blank_first p [] rest apart each h = h
blank_first p (c ∷ cs) rest apart each h = apart c (and_parts (is_blank c) (list_all is_blank cs) each).0

-- the white space on both sides of `=`, and what they stand in
abbrev pub AreBlanks : Text × Text → Text → Text → Type 0
AreBlanks e text rest = IsWhiteSpace e.0 × IsWhiteSpace e.1 × (text ≡ e.0 ++ (61 ∷ (e.1 ++ rest)))

pub equals_takes : (text rest : Text) (e : Text × Text) → equals_at text ≡ Some (e, rest) → AreBlanks e text rest
unfolding equals_at
equals_takes text rest e h =
    let n = prefix_len is_blank text in
    let after = drop 1 (drop n text) in
    let m = prefix_len is_blank after in
    let (sign, same) = guard_some (first (drop n text) == 61) ((take n text, take m after), drop m after) (e, rest) h in
    let whole : text ≡ take n text ++ (61 ∷ (take m after ++ drop m after)) = split_parts is_blank text
    ∙ ap (λ (x : Text). take n text ++ x) (starts (drop n text) 61 sign (omega arith)
    ∙ ap (λ (x : Text). 61 ∷ x) (split_parts is_blank after)) in
    subst (λ (y : (Text × Text) × Text). AreBlanks y.0 text y.1) same (Each-run is_blank text, Each-run is_blank after, whole)

pub equals_again : (before after rest : Text) → IsWhiteSpace before → IsWhiteSpace after → is_blank (first rest) ≡ false
    → equals_at (before ++ (61 ∷ (after ++ rest))) ≡ Some ((before, after), rest)
unfolding equals_at
equals_again before after rest a b stop =
    rw (
      prefix_len-run is_blank before (61 ∷ (after ++ rest)) a refl,
      take_at before (61 ∷ (after ++ rest)) _ refl,
      drop_at before (61 ∷ (after ++ rest)) _ refl,
      prefix_len-run is_blank after rest b stop,
      take_at after rest _ refl,
      drop_at after rest _ refl,
    ) refl

-- ---- the end of a line

pub line_end_takes : (text : Text) → (t : Text) × IsLineEnd t × (text ≡ t ++ line_end_rest text)
unfolding line_end_rest
line_end_takes text =
    let n = prefix_len is_blank text in
    let after = drop 1 (drop n text) in
    let m = prefix_len is_visible after in
    elim (cases_Bool (first (drop n text) == 35)) [
      | inl hash ↦
          let body = comment (take m after) in
          let whole : text ≡ take n text ++ (35 ∷ (take m after ++ drop m after)) = split_parts is_blank text
          ∙ ap (λ (x : Text). take n text ++ x) (starts (drop n text) 35 hash (omega arith)
          ∙ ap (λ (x : Text). 35 ∷ x) (split_parts is_visible after)) in (
            take n text ++ body,
            (take n text, body, Each-run is_blank text, inr (take m after, Each-run is_visible after, refl), refl),
            rw hash (whole ∙ sym (append_assoc (take n text) body (drop m after))),
          )
      | inr none ↦ (
        take n text,
        (take n text, [], Each-run is_blank text, inl refl, sym (append-nil (take n text))),
        rw none (split_parts is_blank text),
      )
    ]

pub line_end_again : (t rest : Text) → IsLineEnd t → is_visible (first rest) ≡ false → line_end_rest (t ++ rest) ≡ rest
unfolding line_end_rest
line_end_again t rest (white, none, each, inl empty, whole) stop =
    let same : t ++ rest ≡ white ++ rest = ap (λ (x : Text). x ++ rest) (whole ∙ ap (λ (x : Text). white ++ x) empty ∙ append-nil white) in
    let no_white : is_blank (first rest) ≡ false = grind (arith, nat_tests) in
    let hash : (first rest == 35) ≡ false = grind (arith, nat_tests) in
    rw (same, prefix_len-run is_blank white rest each no_white, drop_at white rest _ refl, hash) refl
line_end_again t rest (white, last, each, inr (body, visible, is), whole) stop =
    let same : t ++ rest ≡ white ++ (35 ∷ (body ++ rest)) = ap (λ (x : Text). x ++ rest) (whole ∙ ap (λ (x : Text). white ++ x) is)
    ∙ append_assoc white (comment body) rest in
    rw (
      same,
      prefix_len-run is_blank white (35 ∷ (body ++ rest)) each refl,
      drop_at white (35 ∷ (body ++ rest)) _ refl,
      prefix_len-run is_visible body rest visible stop,
      drop_at body rest _ refl,
    ) refl

pub newline_takes : (text rest : Text) → newline_rest text ≡ Some rest → (t : Text) × IsEnding t rest × (text ≡ t ++ rest)
unfolding newline_rest
newline_takes [] rest e = ([], inr (refl, cc), cc)
newline_takes (c ∷ cs) rest e =
    elim (chosen (c == 10) (Some cs) _ (Some rest) e) [
      | inl (is_lf, h) ↦
          let after : cs ≡ rest = cc in
          (10 ∷ [], inl (lf, refl), ap (λ (x : ℕ). x ∷ cs) (eqb-true c 10 is_lf) ∙ ap (λ (x : Text). 10 ∷ x) after)
      | inr (other, h) ↦ elim (chosen (c == 13 && first cs == 10) (Some (drop 1 cs)) _ (Some rest) h) [
        | inl (both, g) ↦
            let (is_cr, is_lf) = and_parts (c == 13) (first cs == 10) both in
            let same : drop 1 cs ≡ rest = cc in (
              13 ∷ 10 ∷ [],
              inl (crlf, refl),
              ap (λ (x : ℕ). x ∷ cs) (eqb-true c 13 is_cr)
                  ∙ ap (λ (x : Text). 13 ∷ x) (starts cs 10 is_lf (omega arith) ∙ ap (λ (x : Text). 10 ∷ x) same),
            )
        | inr (neither, g) ↦
            let (ended, same) = guard_some (suc (length cs) == 0) (c ∷ cs) rest g in
            absurd (omega (arith, eqb-true (suc (length cs)) 0 ended))
      ]
    ]

pub newline_again : (t rest : Text) → IsEnding t rest → newline_rest (t ++ rest) ≡ Some rest
unfolding newline_rest
newline_again t rest (inl (lf, same)) = rw same refl
newline_again t rest (inl (crlf, same)) = rw same refl
newline_again t rest (inr (nothing, ended)) = rw (nothing, ended) refl
