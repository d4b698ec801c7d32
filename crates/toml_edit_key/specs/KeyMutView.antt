-- What a contract sees of a key that is lent.
use Rattle.std.specs.Prelude.{option_map}
use Rattle.std.specs.Borrow.{MutBor}
use Rattle.toml_edit_model.specs.Tree.{Key}
use Rattle.toml_edit_key.specs.Kept.{kept}
use Rattle.toml_edit_key.specs.declared.key.KeyParts.{KeyParts}
use Rattle.toml_edit_key.specs.declared.key.KeyMut.{KeyMut}

-- the reference to what may be written
abbrev pub lent_parts : KeyMut → MutBor KeyParts
lent_parts m = m.parts

-- the key with these parts
abbrev pub with_parts : KeyParts → Key → Key
with_parts p k = record {
  name = k.name;
  spelling = kept p.is_default k.spelling;
  leaf = p.leaf;
  dotted = p.dotted;
}

-- the key itself
abbrev pub key_of : KeyMut → Key
key_of m = record {
  name = m.name.now;
  spelling = kept m.parts.now.is_default (option_map (λ r. r.now) m.repr);
  leaf = m.parts.now.leaf;
  dotted = m.parts.now.dotted;
}
