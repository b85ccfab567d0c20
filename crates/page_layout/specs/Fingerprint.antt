-- The fingerprint of a content, by the version of the image: SHA-1, or the first 20 bytes of SHA-256 (FIPS 180-4).
use Rattle.std.specs.Prelude.{ℕ, ◌==◌, if◌then◌else◌, List, take}
use Rattle.sha1.specs.Sha1.{sha1}
use Rattle.sha2.specs.Sha256.{sha256}
use Rattle.page_device.specs.Block.{Block}

unfoldable pub fingerprint_of : ℕ → Block → List ℕ
fingerprint_of version content = (if version == 1 then sha1 content else take 20 (sha256 content))
