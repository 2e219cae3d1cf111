-- Formats of compressed files.
use Rattle.std.specs.Prelude.{ℕ, ◌/◌, ◌^◌, ◌==◌, if◌then◌else◌, List, codes, Option, None, Some}
use Rattle.netlink_captures.specs.declared.compression.Compression.{Compression}
use Rattle.netlink_captures.specs.declared.compression.Compression.TheVariants.{Gzip, Bzip2, Xz}
use Rattle.netlink_captures.specs.declared.compression.Compression.TheVariants.{Zstd}

-- `compression_of first`: the format of a compressed file whose first four bytes are this
-- big-endian number, or `None` if they belong to none of the formats. gzip begins with the bytes
-- `1f 8b`, bzip2 with `42 5a 68`, xz with `fd 37 7a 58`, zstd with `28 b5 2f fd`.
abbrev pub compression_of : ℕ → Option Compression
compression_of first =
    if first / 2 ^ 16 == 0x1f8b then Some Gzip
    else if first / 2 ^ 8 == 0x425a68 then Some Bzip2
    else if first == 0xfd377a58 then Some Xz
    else if first == 0x28b52ffd then Some Zstd
    else None

-- `compression_text format`: the text of the error about a file in this format
abbrev pub compression_text : Compression → List ℕ
compression_text Gzip = codes "compressed by gzip; decompress it first, with gzip -dc"
compression_text Bzip2 = codes "compressed by bzip2; decompress it first, with bzip2 -dc"
compression_text Xz = codes "compressed by xz; decompress it first, with xz -dc"
compression_text Zstd = codes "compressed by zstd; decompress it first, with zstd -dc"
