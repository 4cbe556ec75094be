-- What a manifest says.
use Rattle.std.proofs.Common.{◌≡◌, ℕ, List, Bool, true, false, Some, None, Err, refl}
use Rattle.std.proofs.lemmas.Str.{IsUtf8-from_is_utf8, is_utf8-from_IsUtf8}
use Rattle.std.specs.Str.{IsUtf8, is_utf8}
use Rattle.serde_json.specs.Data.{Data}
use Rattle.serde_json.specs.Read.{read}
use Rattle.app_manifest.specs.Manifest.{said_of, said_in_value}
use Rattle.app_manifest.specs.declared.plan.ManifestFault.TheVariants.{Json}

-- What is read says what its value says.
pub said_of-read : (bytes : List ℕ) (value : Data) → IsUtf8 bytes → read bytes ≡ Some value → said_of bytes ≡ said_in_value value
unfolding said_of
said_of-read bytes value utf8 e = rw (is_utf8-from_IsUtf8 bytes utf8, e) refl

-- What isn't read is no JSON.
pub said_of-refused : (bytes : List ℕ) → (IsUtf8 bytes → read bytes ≡ None) → said_of bytes ≡ Err Json
unfolding said_of
said_of-refused bytes none = by (is_utf8 bytes) refl
  where
    by : (b : Bool) → is_utf8 bytes ≡ b → said_of bytes ≡ Err Json
    by true e = rw (e, none (IsUtf8-from_is_utf8 bytes e)) refl
    by false e = rw e refl
