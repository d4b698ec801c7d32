use Rattle.std.proofs.Common.{◌≡◌, ◌≢◌, ◌∙◌, ◌++◌, List, ap, sym, subst, inr, append_assoc, arith, string_bytes}
use Rattle.std.specs.Prelude.{codes}
use Rattle.std.specs.List.{flat_map}
use Rattle.std.proofs.lemmas.Bool.{false≢true}
use Rattle.std.proofs.lemmas.Slice.Eq.{bytes_eq-Decides}
use Rattle.line_diff.specs.Diff.{AreLines, IsUnified, Text, heading, hunk_text}
use Rattle.line_diff.specs.Steps.{lines_of, texts}
use Rattle.line_diff.proofs.unified_diff.Goals as goal

pub returns : goal.returns
returns c =
    let old = c.args.old.now in
    let new = c.args.new.now in
    let name = c.args.name.now in
    let script = lines_of c.in_ok-script.script.items in
    let test = bytes_eq-Decides old new in
    let differ : old ≢ new = λ same. false≢true (sym c.if-eq.false ∙ (c.eq.ensures ∙ test.1 same)) in
    let olds = ap texts c.as_slice.ensures.value in
    let news = ap texts c.as_slice-2.ensures.value in
    let made = ap lines_of c.as_slice-3.ensures.value in
    let wrote = rw made at c.in_ok-write_hunks.ensures in
    inr (
      differ,
      record {
        script = script;
        olds = subst (AreLines old) (sym (c.in_ok-script.ensures.olds ∙ olds)) c.in_ok-olds.ensures;
        news = subst (AreLines new) (sym (c.in_ok-script.ensures.news ∙ news)) c.in_ok-news.ensures;
        hunks = wrote.0;
        whole = wrote.1;
        is = wrote.2 ∙ ap (λ text. text ++ flat_map (hunk_text script) wrote.0) (c.in_ok-write_heading.ensures ∙ ap (λ text. text ++ heading name) c.new-out.ensures.bytes);
      },
    )
