-- The end of the text is a place of it.
use Rattle.std.proofs.Common.{lit<, refl, inl, arith}
use Rattle.std.proofs.lemmas.Str.{IsCharBoundary-end}
use Rattle.toml_edit_model.specs.Version.{v1_1}
use Rattle.toml_edit_parser.proofs.fault.malformed.Goals as goal

pub refusal-requires : goal.refusal-requires
refusal-requires c =
    record {
      start = IsCharBoundary-end c.args.reader.now.source.now;
      end = IsCharBoundary-end c.args.reader.now.source.now;
      order = omega arith;
    }

pub returns : goal.returns
returns c = c.refusal.ensures.refused v1_1 (inl (0, lit< tt, refl))
