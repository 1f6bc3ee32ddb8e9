-- What a reader of the call list hands back: the entry at its place, and the place after it. Assumes nothing.
use Rattle.std.specs.Prelude.{List, ℕ, ◌+◌, min, length}
use Rattle.texts.specs.Record.{record_length}
use Rattle.call_list.specs.Records.{Entry, record_at}
use Rattle.call_list.specs.Decoded.{entry_of}
use Rattle.list_reader.specs.declared.Reader.{Reader}
use Rattle.list_reader.specs.declared.Taken.{Taken}

-- the place one record further, and no further than the list's end
unfoldable pub after : List ℕ → ℕ → ℕ
after list place = min (place + record_length) (length list)

-- the same bytes, one record further
abbrev pub moved_on : Reader → Reader
moved_on r = record { list = r.list; place = after r.list.now r.place }

-- what stands at a place, and the place after it
abbrev pub taken_at : List ℕ → ℕ → Entry × ℕ
taken_at list place = (record_at list place, after list place)

abbrev pub taken_of : Taken → Entry × ℕ
taken_of r = (entry_of r.found, r.next)
