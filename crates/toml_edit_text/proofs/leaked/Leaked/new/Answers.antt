-- What `forever` shows is the text.
use Rattle.std.proofs.Common.{◌∙◌, sym, ap, subst, length}
use Rattle.std.proofs.lemmas.Str.{IsUtf8-string_bytes}
use Rattle.std.specs.Prelude.{IsUtf8}
use Rattle.toml_edit_text.proofs.leaked.Leaked.new.Goals as goal

pub returns-clause-whole : goal.returns-clause-whole
returns-clause-whole c =
    let same = c.forever-ptr.ensures.1 ∙ c.leak.ensures.value ∙ ap (λ v. v.items) c.into_bytes.ensures.value in
    record {
      at = sym c.forever-ptr.ensures.0;
      whole = ap length (sym same);
      utf8 = ∣ subst IsUtf8 (sym same) (IsUtf8-string_bytes c.args.text) ∣₁;
    }
