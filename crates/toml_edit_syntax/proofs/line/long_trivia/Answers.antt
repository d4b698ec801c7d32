use Rattle.std.proofs.Common.{◌≡◌, ◌+◌, ◌<◌, drop, zero-add, length, get_or, ap, arith, sym, refl, ◌∙◌, inl, inr}
use Rattle.std.proofs.Common.{Some, None}
use Rattle.std.proofs.lemmas.Bool.{cases_Bool}
use Rattle.std.proofs.lemmas.Grind.{common_steps}
use Rattle.std.proofs.lemmas.List.{take_rest}
use Rattle.std.proofs.lemmas.Str.{IsCharBoundary-start, IsCharBoundary-before_ascii, IsCharBoundary-after_ascii}
use Rattle.toml_edit_model.specs.Text.{Text}
use Rattle.toml_edit_syntax.specs.Scanning.{turn}
use Rattle.toml_edit_syntax.proofs.TriviaLaws.{passed, scan_stops, scan_goes, scan_ends, skipped, skipped_at, turn_ascii, turn_stops}
use Rattle.toml_edit_syntax.proofs.line.long_trivia.Goals as goal

pub bytes-init : goal.bytes-init
bytes-init c = record { within = omega arith; scanned = rw zero-add refl; boundary = λ _. IsCharBoundary-start c.args.s.now c.utf8.s }

pub returns-in-None-clause-value : goal.returns-in-None-clause-value
returns-in-None-clause-value c =
    let within : c.bytes.at < length c.args.s.now = omega (arith, c.as_bytes-bytes.ensures.len) in
    sym (scan_stops _ c.bytes.inside c.args.s.now c.bytes.at within (grind (arith, common_steps)) c.bytes.invariant.scanned)

pub returns-in-None-clause-boundary : goal.returns-in-None-clause-boundary
returns-in-None-clause-boundary c =
    let within : c.bytes.at < length c.args.s.now = omega (arith, c.as_bytes-bytes.ensures.len) in
    let stops : turn c.bytes.inside (get_or c.args.s.now c.bytes.at 0) (get_or c.args.s.now (c.bytes.at + 1) 0) ≡ None =
    grind (arith, common_steps) in
    elim (cases_Bool c.bytes.inside) [
      | inl inside ↦ IsCharBoundary-before_ascii c.args.s.now c.bytes.at within (turn_stops _ _ (rw inside at stops))
      | inr outside ↦ c.bytes.invariant.boundary outside
    ]

pub bytes-preserved : goal.bytes-preserved
bytes-preserved c =
    let s = c.args.s.now in
    let within : c.bytes.at < length s = omega (arith, c.as_bytes-bytes.ensures.len) in
    let goes : turn c.bytes.inside (get_or s c.bytes.at 0) (get_or s (c.bytes.at + 1) 0) ≡ Some c.in-Some.state =
    grind (arith, common_steps) in
    let next = scan_goes _ c.bytes.inside c.in-Some.state s c.bytes.at within goes c.bytes.invariant.scanned in
    let len : c.comment_len-at.result ≡ passed c.in-Some.state (drop (c.bytes.at + 1) s) =
    c.comment_len-at.ensures.len
    ∙ ap (passed c.in-Some.state) (take_rest c.as_bytes-bytes.result.now (c.bytes.at + 1)
    ∙ ap (λ (t : Text). drop (c.bytes.at + 1) t) c.as_bytes-bytes.ensures.value) in
    record {
      within = omega (arith, within, c.comment_len-at.ensures.within);
      scanned = skipped c.in-Some.state _ s (c.bytes.at + 1) c.comment_len-at.result len next;
      boundary = λ outside. skipped_at c.in-Some.state s (c.bytes.at + 1) c.comment_len-at.result len outside
          (IsCharBoundary-after_ascii s c.bytes.at c.utf8.s within (turn_ascii c.bytes.inside _ _ _ goes outside));
    }

pub returns-clause-value : goal.returns-clause-value
returns-clause-value c =
    let len : c.bytes.at ≡ length c.as_bytes-bytes.result.now = omega arith in
    rw (← len) (sym (scan_ends _ c.bytes.inside c.args.s.now c.bytes.at (omega (arith, c.as_bytes-bytes.ensures.len))
    c.bytes.invariant.scanned))
