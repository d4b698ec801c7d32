-- The output is written, or fails, and then the last line of the errors says so.
use Rattle.std.proofs.Common.{◌∙◌, ◌++◌, Bool, false, true, List, [], ℕ, ap, cond, subst, string_bytes}
use Rattle.std.specs.Prelude.{◌==◌, if◌then◌else◌}
use Rattle.toml_edit_files.specs.Runs.{Adds, memory_line, write_line}
use Rattle.toml_edit_files.proofs.RunLaws.{unwritten, written}
use Rattle.toml_edit_files.proofs.program.run.Goals as goal

pub returns-then-written-clause-ends : goal.returns-then-written-clause-ends
returns-then-written-clause-ends g c =
    let told = c.answer-told.result in
    let line = if told.status == 3 then memory_line else [] in
    let old = g.E.Output.contents c.args.errors.now in
    let new = g.E.Output.contents c.tell.new.errors in
    let failed = g.E.Output.has_failed c.tell.new.errors in
    let line-is = c.last_line.ensures ∙ ap (λ (b : Bool). cond b line write_line) c.if-written.true in (
      told,
      line,
      c.answer-told.ensures,
      written g.O.Output.contents c.args.output.now c.write-written.new.output told.status (string_bytes told.output) c.as_str.result.now
          c.as_str.ensures.value c.write-written.result c.write-written.ensures.written c.write-written.ensures.none c.if-written.true,
      subst (λ (l : List ℕ). Adds old new failed (string_bytes told.notes ++ l)) line-is
          (subst (λ (n : List ℕ). Adds old new failed (n ++ c.last_line.result.now)) c.as_str-2.ensures.value c.tell.ensures),
    )

pub returns-clause-ends : goal.returns-clause-ends
returns-clause-ends g c =
    let told = c.answer-told.result in
    let old = g.E.Output.contents c.args.errors.now in
    let new = g.E.Output.contents c.tell.new.errors in
    let failed = g.E.Output.has_failed c.tell.new.errors in
    let line-is = c.last_line.ensures ∙ ap (λ (b : Bool). cond b (if told.status == 3 then memory_line else []) write_line) c.if-written.false in (
      told,
      write_line,
      c.answer-told.ensures,
      unwritten g.O.Output.contents c.args.output.now c.write-written.new.output told.status (string_bytes told.output) c.as_str.result.now
          c.as_str.ensures.value c.write-written.result c.write-written.ensures.written c.write-written.ensures.none c.if-written.false,
      subst (λ (l : List ℕ). Adds old new failed (string_bytes told.notes ++ l)) line-is
          (subst (λ (n : List ℕ). Adds old new failed (n ++ c.last_line.result.now)) c.as_str-2.ensures.value c.tell.ensures),
    )
