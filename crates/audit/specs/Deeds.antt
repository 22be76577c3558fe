-- What a line of a journal did that may begin or end a ground (docs/AUDIT.md).
use Rattle.std.specs.Prelude.{ℕ, ◌%◌, get_or, Option, Some, None}
use Rattle.journal.specs.Statements.{setup, command, link, route, reach, Line, skipped, said, too_long, expected}
use Rattle.audit.specs.declared.ledger.Deed.{Deed}

-- a statement that may, by an initiator, at a line; initiators that are there are below 256
abbrev pub did : ℕ → ℕ → ℕ → Deed
did number statement i = record { what = statement; by = i % 256; line = number }

-- "Commands are named by byte 1 of the CDB, bits 4 to 0"
unfoldable pub done_by : ℕ → Line → Option Deed
done_by number skipped = None
done_by number too_long = None
done_by number (expected k kind) = None
done_by number (said (setup ids luns)) = Some (did number 0xFF 0)
done_by number (said (command i cdb list random n)) = Some (did number (get_or cdb 1 0 % 32) i)
done_by number (said (link i)) = Some (did number 0xFE i)
done_by number (said (route i l)) = None
done_by number (said (reach n)) = None
