-- Each piece is read as the string is.
use Rattle.std.proofs.Common.{◌≡◌, ◌≢◌, ◌+◌, ◌-◌, ◌<◌, ◌≤◌, ◌∙◌, length, drop, Some, None, sym, ap, subst, arith, IsUtf8}
use Rattle.std.proofs.lemmas.Grind.{common_steps}
use Rattle.std.specs.Str.{IsCharBoundary}
use Rattle.toml_edit_laws.specs.reading.Runs.{first}
use Rattle.toml_edit_laws.specs.reading.BlockReading.{run_of, newline_len, escaped_at}
use Rattle.toml_edit_token.specs.BlockPieces.{delimiter_of, escaped_text}
use Rattle.toml_edit_token.proofs.BlockLoop.{own_is, own_none_is, boundary_in_run, boundary_of_newline, delimiter_ascii, run_last, no_piece}
use Rattle.toml_edit_token.proofs.BlockLoop.{part_none, slash_none, escaped_piece, newline_within, unmoved, boundary_after, quotes_behind}
use Rattle.toml_edit_token.proofs.BlockLoop.{line_behind, last_behind}
use Rattle.toml_edit_token.proofs.block_string.next_piece.Goals as goal

pub split_at-requires : goal.split_at-requires
split_at-requires c =
    let f = c.args.form in
    let s = c.args.s.now in
    let own = c.split_run.result.0.now in
    let rest = c.split_run.result.1.now in
    let run : c.quote_len-quotes.result ≡ run_of (delimiter_of f) rest = c.quote_len-quotes.ensures
    ∙ (λ i. run_of (c.delimiter.ensures i) (c.as_bytes.ensures.value i)) in
    let utf8 : IsUtf8 rest = subst IsUtf8 c.as_bytes.ensures.value c.as_bytes.ensures.utf8 in
    let within : length own ≤ length s = omega (arith, c.split_run.ensures.lens) in
    let least = c.min-end.ensures in
    let shift : (length own + c.min-end.result) - 3 ≡ length own + (c.min-end.result - 3) = omega arith in
    let there = boundary_in_run (delimiter_of f) rest (c.min-end.result - 3) utf8 (delimiter_ascii f).0 (delimiter_ascii f).1
    (omega arith) in
    subst (IsCharBoundary s) (sym shift) (boundary_after f s own rest c.class.result c.class.ensures c.split_run.ensures.parts
    (c.min-end.result - 3) within there)

pub skip-requires-clause-there : goal.skip-requires-clause-there
skip-requires-clause-there c =
    let f = c.args.form in
    let rest = c.split_run.result.1.now in
    let run : c.quote_len-quotes.result ≡ run_of (delimiter_of f) rest = c.quote_len-quotes.ensures
    ∙ (λ i. run_of (c.delimiter.ensures i) (c.as_bytes.ensures.value i)) in
    let least = c.min-end.ensures in
    (run_last f rest c.min-end.result (omega arith) (omega arith)).0

pub skip-requires-clause-ascii : goal.skip-requires-clause-ascii
skip-requires-clause-ascii c =
    let f = c.args.form in
    let rest = c.split_run.result.1.now in
    let run : c.quote_len-quotes.result ≡ run_of (delimiter_of f) rest = c.quote_len-quotes.ensures
    ∙ (λ i. run_of (c.delimiter.ensures i) (c.as_bytes.ensures.value i)) in
    let least = c.min-end.ensures in
    (run_last f rest c.min-end.result (omega arith) (omega arith)).1

pub returns-then-quotes-ge3-clause-piece : goal.returns-then-quotes-ge3-clause-piece
returns-then-quotes-ge3-clause-piece c n room =
    let f = c.args.form in
    let s = c.args.s.now in
    let own = c.split_run.result.0.now in
    let rest = c.split_run.result.1.now in
    let run : c.quote_len-quotes.result ≡ run_of (delimiter_of f) rest = c.quote_len-quotes.ensures
    ∙ (λ i. run_of (c.delimiter.ensures i) (c.as_bytes.ensures.value i)) in
    last_behind f s own rest c.class.result c.class.ensures c.split_run.ensures.parts n c.quote_len-quotes.result c.min-end.result _ _ room
    run c.if-quotes-ge3.true c.min-end.ensures c.split_at.ensures.front c.skip.ensures.rest

pub split_at-requires-then-quotes-gt0 : goal.split_at-requires-then-quotes-gt0
split_at-requires-then-quotes-gt0 c =
    let f = c.args.form in
    let s = c.args.s.now in
    let own = c.split_run.result.0.now in
    let rest = c.split_run.result.1.now in
    let run : c.quote_len-quotes.result ≡ run_of (delimiter_of f) rest = c.quote_len-quotes.ensures
    ∙ (λ i. run_of (c.delimiter.ensures i) (c.as_bytes.ensures.value i)) in
    let utf8 : IsUtf8 rest = subst IsUtf8 c.as_bytes.ensures.value c.as_bytes.ensures.utf8 in
    let within : length own ≤ length s = omega (arith, c.split_run.ensures.lens) in
    boundary_after f s own rest c.class.result c.class.ensures c.split_run.ensures.parts c.quote_len-quotes.result within
    (boundary_in_run (delimiter_of f) rest c.quote_len-quotes.result utf8 (delimiter_ascii f).0 (delimiter_ascii f).1 (omega arith))

pub returns-then-quotes-gt0-clause-piece : goal.returns-then-quotes-gt0-clause-piece
returns-then-quotes-gt0-clause-piece c n room =
    let f = c.args.form in
    let s = c.args.s.now in
    let own = c.split_run.result.0.now in
    let rest = c.split_run.result.1.now in
    let run : c.quote_len-quotes.result ≡ run_of (delimiter_of f) rest = c.quote_len-quotes.ensures
    ∙ (λ i. run_of (c.delimiter.ensures i) (c.as_bytes.ensures.value i)) in
    quotes_behind f s own rest c.class.result c.class.ensures c.split_run.ensures.parts n c.quote_len-quotes.result _ _ room run
    c.if-quotes-gt0.true c.if-quotes-ge3.false c.split_at-then-quotes-gt0.ensures.front c.split_at-then-quotes-gt0.ensures.back

pub overflow_add-own-then-newline-gt0 : goal.overflow_add-own-then-newline-gt0
overflow_add-own-then-newline-gt0 c =
    let rest = c.split_run.result.1.now in
    let len = c.newline_len-newline.ensures in
    let some : 0 < newline_len rest = omega arith in
    record { fits = omega (arith, newline_within rest some, c.split_run.ensures.lens) }

pub split_at-requires-then-newline-gt0 : goal.split_at-requires-then-newline-gt0
split_at-requires-then-newline-gt0 c =
    let f = c.args.form in
    let s = c.args.s.now in
    let own = c.split_run.result.0.now in
    let rest = c.split_run.result.1.now in
    let utf8 : IsUtf8 rest = subst IsUtf8 c.as_bytes.ensures.value c.as_bytes.ensures.utf8 in
    let within : length own ≤ length s = omega (arith, c.split_run.ensures.lens) in
    let len = c.newline_len-newline.ensures in
    boundary_after f s own rest c.class.result c.class.ensures c.split_run.ensures.parts c.newline_len-newline.result within
    (rw len (boundary_of_newline rest utf8 (omega arith)))

pub returns-then-newline-gt0-clause-piece : goal.returns-then-newline-gt0-clause-piece
returns-then-newline-gt0-clause-piece c n room =
    let f = c.args.form in
    let s = c.args.s.now in
    let own = c.split_run.result.0.now in
    let rest = c.split_run.result.1.now in
    let run : c.quote_len-quotes.result ≡ run_of (delimiter_of f) rest = c.quote_len-quotes.ensures
    ∙ (λ i. run_of (c.delimiter.ensures i) (c.as_bytes.ensures.value i)) in
    line_behind f s own rest c.class.result c.class.ensures c.split_run.ensures.parts n c.newline_len-newline.result _ _ room (omega arith)
    c.newline_len-newline.ensures c.if-newline-gt0.true c.split_at-then-newline-gt0.ensures.front
    c.split_at-then-newline-gt0.ensures.back

pub returns-then-not-is_empty-clause-piece : goal.returns-then-not-is_empty-clause-piece
returns-then-not-is_empty-clause-piece c n room =
    own_is c.args.form c.args.s.now n c.class.result c.split_run.result.0.now c.split_run.result.1.now room c.class.ensures
    c.split_run.ensures.parts

pub returns-then-first_byte-ne92-clause-piece : goal.returns-then-first_byte-ne92-clause-piece
returns-then-first_byte-ne92-clause-piece c n room =
    let f = c.args.form in
    let s = c.args.s.now in
    let own = c.split_run.result.0.now in
    let rest = c.split_run.result.1.now in
    let none : length own ≡ 0 = grind (arith, common_steps) in
    let still = unmoved f s own rest c.class.result c.class.ensures c.split_run.ensures.parts none in
    let run : c.quote_len-quotes.result ≡ run_of (delimiter_of f) s = c.quote_len-quotes.ensures
    ∙ (λ i. run_of (c.delimiter.ensures i) (c.as_bytes.ensures.value i)) ∙ ap (run_of (delimiter_of f)) still in
    let line : c.newline_len-newline.result ≡ newline_len s = c.newline_len-newline.ensures ∙ ap newline_len still in
    let other = own_none_is f s c.class.result own rest c.class.ensures c.split_run.ensures.parts none in
    let no_slash : first s ≢ 92 = grind (arith, common_steps) in
    no_piece f s n room (omega arith) (omega arith) (part_none f s other no_slash)

pub returns-in_err-c-in-Basic-clause-piece : goal.returns-in_err-c-in-Basic-clause-piece
returns-in_err-c-in-Basic-clause-piece c n room =
    let f = c.args.form in
    let s = c.args.s.now in
    let own = c.split_run.result.0.now in
    let rest = c.split_run.result.1.now in
    let none : length own ≡ 0 = grind (arith, common_steps) in
    let still = unmoved f s own rest c.class.result c.class.ensures c.split_run.ensures.parts none in
    let run : c.quote_len-quotes.result ≡ run_of (delimiter_of f) s = c.quote_len-quotes.ensures
    ∙ (λ i. run_of (c.delimiter.ensures i) (c.as_bytes.ensures.value i)) ∙ ap (run_of (delimiter_of f)) still in
    let line : c.newline_len-newline.result ≡ newline_len s = c.newline_len-newline.ensures ∙ ap newline_len still in
    let slash : first s ≡ 92 = grind (arith, common_steps) in
    let nothing : escaped_at (drop 1 s) ≡ None = rw (← c.skip-in-Basic.ensures.rest) (sym c.in_err-c-in-Basic.ensures.value) in
    rw c.from_residual.ensures (no_piece f s n room (omega arith) (omega arith) (slash_none f s c.in-Basic.is slash nothing))

pub returns-in_ok-c-in-Basic-clause-piece : goal.returns-in_ok-c-in-Basic-clause-piece
returns-in_ok-c-in-Basic-clause-piece c n room =
    let f = c.args.form in
    let s = c.args.s.now in
    let own = c.split_run.result.0.now in
    let rest = c.split_run.result.1.now in
    let none : length own ≡ 0 = grind (arith, common_steps) in
    let still = unmoved f s own rest c.class.result c.class.ensures c.split_run.ensures.parts none in
    let run : c.quote_len-quotes.result ≡ run_of (delimiter_of f) s = c.quote_len-quotes.ensures
    ∙ (λ i. run_of (c.delimiter.ensures i) (c.as_bytes.ensures.value i)) ∙ ap (run_of (delimiter_of f)) still in
    let line : c.newline_len-newline.result ≡ newline_len s = c.newline_len-newline.ensures ∙ ap newline_len still in
    let slash : first s ≡ 92 = grind (arith, common_steps) in
    let found : escaped_at (drop 1 s) ≡ Some (escaped_text c.in_ok-c-in-Basic.c, c.in_ok-c-in-Basic.rest.now) =
    rw (← c.skip-in-Basic.ensures.rest) (sym c.in_ok-c-in-Basic.ensures.value) in
    let len = c.skip-in-Basic.ensures.len in
    let within = c.in_ok-c-in-Basic.ensures.within in
    escaped_piece f s n _ c.in_ok-c-in-Basic.rest.now c.in-Basic.is room (omega arith) (omega arith) slash found (omega arith)
