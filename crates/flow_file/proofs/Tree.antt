-- What the tree of a text is, as the code finds it.
use Rattle.std.proofs.Common.{◌≡◌, None, Err, inl, inr}
use Rattle.std.specs.Prelude.{IsUtf8}
use Rattle.std.specs.Str.{is_utf8}
use Rattle.std.proofs.lemmas.Bool.{cases_Bool}
use Rattle.std.proofs.lemmas.Str.{IsUtf8-from_is_utf8, is_utf8-from_IsUtf8}
use Rattle.toml.specs.Parse.{parse_document}
use Rattle.flow_file.specs.declared.fault.TextFault.TheVariants as fault
use Rattle.flow_file.specs.Value.{Bytes, or_fault, tree_of}

-- the tree of text that is UTF-8 is toml's
pub tree_of_utf8 : (bytes : Bytes) → IsUtf8 bytes → tree_of bytes ≡ or_fault (parse_document bytes) fault.NotToml
unfolding tree_of
tree_of_utf8 bytes utf8 = rw (is_utf8-from_IsUtf8 bytes utf8)

-- what toml does not parse has no tree
pub no_tree : (bytes : Bytes) → (IsUtf8 bytes → parse_document bytes ≡ None) → tree_of bytes ≡ Err fault.NotToml
unfolding tree_of
no_tree bytes refused =
    elim (cases_Bool (is_utf8 bytes)) [
      | inl utf8 ↦ rw (utf8, refused (IsUtf8-from_is_utf8 bytes utf8))
      | inr other ↦ rw other
    ]
