-- What clauses see of the shelves in memory, and what a call makes of them.
use Rattle.std.specs.Prelude.{ℕ, refl, Bool, ◌||◌, ◌==◌, List, [], ◌∷◌, ◌++◌, ◌-◌, length, map, filter, Option, Some, None, Result, Ok, Err, if◌then◌else◌, nat_le, nat_lt}
use Rattle.std.specs.List.{list_any}
use Rattle.std.specs.Coded.{Coded, code_by, coded×, coded_ℕ, coded_list}
use Rattle.std.specs.FinMap as map
use Rattle.liq_base.specs.Files.{Files, file_at, with_file}
use Rattle.liq_base.specs.Shelves.{Closing, ShelfTold, closing_of}
use Rattle.liq_base.specs.SinkStates.{one_more, empty_sink, NamedState}
use Rattle.liq_base.specs.declared.shelf.Fetched.{Fetched}
use Rattle.liq_base.specs.declared.shelf.Fetched.TheVariants.{Found, Missing, TooLarge}
use Rattle.liq_base.specs.declared.shelf.ShelfFault.{ShelfFault}
use Rattle.liq_base.specs.declared.shelf.ShelfFault.TheVariants.{Failed}
use Rattle.liq_base.specs.declared.mem_shelf.FailingAppend.{FailingAppend}

-- Whether the call of this number is among the calls that a shelf in memory was told to let fail.
abbrev pub is_listed : List ℕ → ℕ → Bool
is_listed calls call = list_any (λ listed. listed == call) calls

-- A count of faults after one more call, which `failed` or did not: one more, up to 2^64 - 1, or as it was.
abbrev pub raised : ℕ → Bool → ℕ
raised count failed = if failed then one_more count else count

-- All that a shelf in memory keeps whose calls can be told to fail: its files, the names of the sinks it made, and what
-- it tells of those it closed. For each sort of call it keeps how many were made, which are to fail, and how many
-- failed.
pub record ShelfState : Type 0 where
  pub files : Files
  pub created : List (List ℕ)
  pub closed : List Closing
  pub reads : ℕ
  pub creates : ℕ
  pub closes : ℕ
  pub failing_reads : List ℕ
  pub failing_creates : List ℕ
  pub failing_closes : List ℕ
  pub failing_appends : List FailingAppend
  pub read_faults : ℕ
  pub write_faults : ℕ

-- A code of files as numbers: a map of names and bytes as it is. A type with a code can be what contracts see.
abbrev pub files_code : Coded Files
files_code = map.code (coded_list coded_ℕ) (coded_list coded_ℕ)

-- A code of what is told of a closed sink as numbers, by way of nested pairs. A type with a code can be what contracts
-- see.
abbrev closing_code : Coded Closing
closing_code = code_by (List ℕ
    × (ℕ × (ℕ × (ℕ × ℕ))))
    (coded× (coded_list coded_ℕ) (coded× coded_ℕ (coded× coded_ℕ (coded× coded_ℕ coded_ℕ))))
    (λ c. (c.name, (c.room, (c.bytes, (c.pieces, c.faults))))) (λ p. record {
      name = p.0;
      room = p.1.0;
      bytes = p.1.1.0;
      pieces = p.1.1.1.0;
      faults = p.1.1.1.1;
    }) (λ _. refl)

-- A code of an append that is to fail as numbers, by way of nested pairs. A type with a code can be what contracts see.
abbrev append_code : Coded FailingAppend
append_code = code_by (ℕ
    × (ℕ × ℕ)) (coded× coded_ℕ (coded× coded_ℕ coded_ℕ)) (λ f. (f.sink, (f.call, f.taken))) (λ p. record {
      sink = p.0;
      call = p.1.0;
      taken = p.1.1;
    }) (λ _. refl)

-- A code of all that a shelf in memory keeps as numbers, by way of nested pairs. A type with a code can be what
-- contracts see.
abbrev pub shelf_code : Coded ShelfState
shelf_code =
    code_by ((Files × (List (List ℕ) × List Closing))
    × ((ℕ × (ℕ × ℕ)) × ((List ℕ × (List ℕ × (List ℕ × List FailingAppend))) × (ℕ × ℕ))))
    (coded× (coded× files_code (coded× (coded_list (coded_list coded_ℕ)) (coded_list closing_code)))
    (coded× (coded× coded_ℕ (coded× coded_ℕ coded_ℕ))
    (coded× (coded× (coded_list coded_ℕ)
    (coded× (coded_list coded_ℕ) (coded× (coded_list coded_ℕ) (coded_list append_code)))) (coded× coded_ℕ coded_ℕ))))
    (λ s. (
      (s.files, (s.created, s.closed)),
      (
        (s.reads, (s.creates, s.closes)),
        (
          (s.failing_reads, (s.failing_creates, (s.failing_closes, s.failing_appends))),
          (s.read_faults, s.write_faults),
        ),
      ),
    ))
    (λ p. record {
      files = p.0.0;
      created = p.0.1.0;
      closed = p.0.1.1;
      reads = p.1.0.0;
      creates = p.1.0.1.0;
      closes = p.1.0.1.1;
      failing_reads = p.1.1.0.0;
      failing_creates = p.1.1.0.1.0;
      failing_closes = p.1.1.0.1.1.0;
      failing_appends = p.1.1.0.1.1.1;
      read_faults = p.1.1.1.0;
      write_faults = p.1.1.1.1;
    })
    (λ _. refl)

-- What a shelf in memory tells of itself: its files, the sinks that it made and closed, and its two counts of faults.
abbrev pub shelf_told : ShelfState → ShelfTold
shelf_told shelf = record {
  files = Some shelf.files;
  created = Some shelf.created;
  closed = Some shelf.closed;
  reads = shelf.read_faults;
  writes = shelf.write_faults;
}

-- What a shelf in memory tells of itself that never fails: its files, and that no call failed.
abbrev pub sure_shelf_told : Files → ShelfTold
sure_shelf_told files = record { files = Some files; created = None; closed = None; reads = 0; writes = 0 }

-- A shelf in memory that was just made with these files: no call was made of it, and none is to fail.
abbrev pub untouched : Files → ShelfState
untouched files = record {
  files = files;
  created = [];
  closed = [];
  reads = 0;
  creates = 0;
  closes = 0;
  failing_reads = [];
  failing_creates = [];
  failing_closes = [];
  failing_appends = [];
  read_faults = 0;
  write_faults = 0;
}

-- What a read answers about a file that has these bytes, or that is missing (`None`), where at most `most` bytes are
-- allowed: found, missing or too large.
abbrev pub fetched : Option (List ℕ) → ℕ → Fetched
fetched None most = Missing
fetched (Some bytes) most = if nat_le (length bytes) most then Found else TooLarge

-- Whether the next read of a shelf in memory is one that it was told to let fail.
abbrev pub read_fails : ShelfState → Bool
read_fails shelf = is_listed shelf.failing_reads shelf.reads

-- Whether the next creation of a shelf in memory is one that it was told to let fail.
abbrev pub create_fails : ShelfState → Bool
create_fails shelf = is_listed shelf.failing_creates shelf.creates

-- Whether the next closing of a shelf in memory is one that it was told to let fail.
abbrev pub close_fails : ShelfState → Bool
close_fails shelf = is_listed shelf.failing_closes shelf.closes

-- What the next read of the file of this name answers, with at most `most` bytes allowed, unless memory is refused: a
-- listed fault, or found, missing or too large.
abbrev pub read_answer : ShelfState → List ℕ → ℕ → Result Fetched ShelfFault
read_answer shelf name most = if read_fails shelf then Err Failed else Ok (fetched (file_at shelf.files name) most)

-- A shelf in memory after one more read: it counts the call, and the fault if it was to fail.
abbrev pub after_read : ShelfState → ShelfState
after_read shelf = record shelf {
  reads = one_more shelf.reads;
  read_faults = raised shelf.read_faults (read_fails shelf);
}

-- A shelf in memory after one more creation, which made a sink of one name, or none. It counts the call, and the fault
-- if it was to fail.
abbrev pub after_create : ShelfState → List (List ℕ) → ShelfState
after_create shelf made = record shelf {
  created = shelf.created ++ made;
  creates = one_more shelf.creates;
  write_faults = raised shelf.write_faults (create_fails shelf);
}

-- The appends that are to fail of the sink which creation number `sink` makes: for each the number of its call, and how
-- many bytes it takes.
abbrev pub appends_of : ℕ → List FailingAppend → List (ℕ × ℕ)
appends_of sink fails = map (λ fail. (fail.call, fail.taken)) (filter (λ fail. fail.sink == sink) fails)

-- The sink that the next creation of a shelf in memory makes: empty, with this name and room, and with the appends that
-- are to fail.
abbrev pub created_sink : ShelfState → List ℕ → ℕ → NamedState
created_sink shelf name room = record {
  name = name;
  sink = empty_sink room (appends_of shelf.creates shelf.failing_appends);
}

-- The files of a shelf in memory after this sink was closed: with its bytes under its name, or as they were if the
-- closing `failed`.
abbrev pub files_after : Bool → Files → NamedState → Files
files_after failed files out = if failed then files else with_file files out.name out.sink.held

-- A shelf in memory after this sink was closed: its bytes are a file unless the closing failed. It counts the call, and
-- a fault if the closing was to fail or the sink had failed.
abbrev pub after_close : ShelfState → NamedState → ShelfState
after_close shelf out = record shelf {
  files = files_after (close_fails shelf) shelf.files out;
  closed =
      shelf.closed ++ closing_of out.name out.sink.held (out.sink.room
      - length out.sink.held) out.sink.calls out.sink.faults ∷ [];
  closes = one_more shelf.closes;
  write_faults = raised shelf.write_faults (close_fails shelf || nat_lt 0 out.sink.faults);
}
