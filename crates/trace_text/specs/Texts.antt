-- What commands and replies read.
use Rattle.std.specs.Prelude.{ℕ, ◌==◌, if◌then◌else◌, List, [], ◌∷◌, ◌++◌, codes, decimal}
use Rattle.hex.specs.Hex.{encode_lower}
use Rattle.page_device.specs.declared.error.Damage.{Damage}
use Rattle.trace_text.specs.declared.command.Command.{Command}
use Rattle.trace_text.specs.declared.command.Command.TheVariants.{Write, Fill, Read, Discard, Copy, Flush, Scan, Stat, Policy, Tune, Tick}
use Rattle.trace_text.specs.declared.reply.Halt.{Halt}
use Rattle.trace_text.specs.declared.reply.Halt.TheVariants as halt
use Rattle.trace_text.specs.declared.reply.Reply.{Reply}
use Rattle.trace_text.specs.declared.reply.Reply.TheVariants as reply

-- the end of a line
abbrev pub line_feed : List ℕ
line_feed = 10 ∷ []

-- two numbers with a space between
abbrev pub two : ℕ → ℕ → List ℕ
two a b = decimal a ++ codes " " ++ decimal b

-- the byte before bytes whose zeros at the end are cut
abbrev pub cut_before : ℕ → List ℕ → List ℕ
cut_before byte [] = (if byte == 0 then [] else byte ∷ [])
cut_before byte (next ∷ rest) = byte ∷ next ∷ rest

-- the bytes without the zeros at their end
unfoldable pub trimmed : List ℕ → List ℕ
trimmed [] = []
trimmed (byte ∷ rest) = cut_before byte (trimmed rest)

-- bytes in hexadecimal, or `-` where there is none
abbrev pub hex_or_dash : List ℕ → List ℕ
hex_or_dash [] = codes "-"
hex_or_dash (byte ∷ rest) = encode_lower (byte ∷ rest)

-- bytes in hexadecimal, at least one
abbrev pub hex_of_some : List ℕ → List ℕ
hex_of_some [] = codes "00"
hex_of_some (byte ∷ rest) = encode_lower (byte ∷ rest)

-- the line of a command, without its end
unfoldable pub line_of : Command → List ℕ
line_of (Write block number) = codes "w " ++ two block number
line_of (Fill block page) = codes "x " ++ decimal block ++ codes " " ++ hex_of_some (trimmed page)
line_of (Read block) = codes "r " ++ decimal block
line_of (Discard block) = codes "d " ++ decimal block
line_of (Copy from to n) = codes "c " ++ two from to ++ codes " " ++ decimal n
line_of Flush = codes "f"
line_of Scan = codes "s"
line_of Stat = codes "t"
line_of (Policy label) = codes "p " ++ decimal label
line_of (Tune n) = codes "n " ++ decimal n
line_of Tick = codes "."

-- why a copy stopped
unfoldable pub halt_words : Halt → List ℕ
halt_words halt.Fault = codes "fault"
halt_words (halt.Damaged damage) = codes "damaged " ++ two damage.page damage.entry
halt_words (halt.Full live waste) = codes "full " ++ two live waste
halt_words halt.NoMemory = codes "nomem"

-- a reply, without the number of device calls before it
unfoldable pub reply_words : Reply → List ℕ
reply_words reply.Done = codes "ok"
reply_words (reply.Bytes page) = codes "data " ++ hex_or_dash (trimmed page)
reply_words reply.Range = codes "range"
reply_words reply.Fault = codes "fault"
reply_words (reply.Damaged damage) = codes "damaged " ++ two damage.page damage.entry
reply_words (reply.Full live waste) = codes "full " ++ two live waste
reply_words reply.NoMemory = codes "nomem"
reply_words (reply.Stat stat) = codes "stat live=" ++ decimal stat.live ++ codes " waste=" ++ decimal stat.waste ++ codes " postponed=" ++ decimal stat.postponed ++ codes " dirty=" ++ decimal stat.dirty
reply_words (reply.Scan report) = codes "scan freed=" ++ decimal report.freed ++ codes " lowered=" ++ decimal report.lowered ++ codes " printed=" ++ decimal report.printed
reply_words reply.NoPolicy = codes "nopolicy"
reply_words reply.Bad = codes "bad"
reply_words reply.Overlap = codes "overlap"
reply_words (reply.Stopped done why) = codes "stopped " ++ decimal done ++ codes " " ++ halt_words why

-- the line that names a malformed entry
abbrev pub damage_line : Damage → List ℕ
damage_line damage = reply_words (reply.Damaged damage) ++ line_feed

-- the whole text of a reply: the number of device writes and barriers so far, the words, and the end of the line
abbrev pub text_of : ℕ → Reply → List ℕ
text_of at r = decimal at ++ codes " " ++ reply_words r ++ line_feed

-- the lines that formatting and checking an image put
abbrev pub formatted_line : ℕ → ℕ → List ℕ
formatted_line blocks pages = codes "formatted blocks=" ++ decimal blocks ++ codes " pages=" ++ decimal pages ++ line_feed

abbrev pub sound_line : ℕ → List ℕ
sound_line waste = codes "sound waste=" ++ decimal waste ++ line_feed

abbrev pub low_count_line : ℕ → ℕ → ℕ → List ℕ
low_count_line page stored named = codes "lowcount " ++ two page stored ++ codes " " ++ decimal named ++ line_feed

abbrev pub wrong_print_line : ℕ → List ℕ
wrong_print_line page = codes "wrongprint " ++ decimal page ++ line_feed

abbrev pub print_on_zero_line : ℕ → List ℕ
print_on_zero_line page = codes "printonzero " ++ decimal page ++ line_feed
