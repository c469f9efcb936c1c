-- The words of the command line.
use Rattle.std.specs.Prelude.{◌+◌, ◌&&◌, ℕ, ℤ, pos, Bool, true, false, List, [], ◌∷◌, Option, Some, None, is_none, unwrap_or, length, nat_eq, nat_le, Result, Ok, Err, codes, bytes_eq, if◌then◌else◌}
use Rattle.lines.specs.Numbers.{number_in}
use Rattle.plant_gen.specs.Generated.{longest_train}
use Rattle.flow_top.specs.declared.words.Command.{Command}
use Rattle.flow_top.specs.declared.words.Command.TheVariants.{Run, Direct, Check, Demo}
use Rattle.flow_top.specs.declared.words.Request.{Request}
use Rattle.flow_top.specs.declared.words.Files.{Files}

-- the digit 0
abbrev pub zero_digit : ℕ
zero_digit = 48

-- the command of this name, where it needs no word behind it
abbrev pub command_named : List ℕ → Option Command
command_named word =
    if bytes_eq word (codes "run") then Some Run
    else if bytes_eq word (codes "direct") then Some Direct
    else if bytes_eq word (codes "check") then Some Check
    else None

-- the command reads records of the feeds; and it writes a trace
abbrev pub reads_records : Command → Bool
reads_records Run = true
reads_records Direct = true
reads_records Check = false
reads_records (Demo stages) = false

abbrev pub writes_trace : Command → Bool
writes_trace Run = true
writes_trace Direct = false
writes_trace Check = false
writes_trace (Demo stages) = false

-- the command relaxes with workers
abbrev pub has_workers : Command → Bool
has_workers Run = true
has_workers Direct = false
has_workers Check = false
has_workers (Demo stages) = true

-- the number that a word writes, from 1 to the most: 1 to 6 decimal digits without a leading zero
abbrev pub up_to : ℕ → Option ℤ → Option ℕ
up_to most (Some (pos n)) = if nat_le 1 n && nat_le n most then Some n else None
up_to most number = None

abbrev pub count_in : ℕ → List ℕ → Option ℕ
count_in most [] = None
count_in most (digit ∷ rest) = if nat_eq digit zero_digit then None else up_to most (number_in 6 false (digit ∷ rest))

-- the most workers, and how many there are where the words do not say it
abbrev pub most_workers : ℕ
most_workers = 32

abbrev pub usual_workers : ℕ
usual_workers = 4

-- an option that the command has, and that is not given yet: `--feeds`, `--journal` or `--workers`
unfoldable pub takes : Request → List ℕ → Bool
takes request name =
    if bytes_eq name (codes "--feeds") then reads_records request.command && is_none request.feeds
    else if bytes_eq name (codes "--journal") then writes_trace request.command && is_none request.journal
    else bytes_eq name (codes "--workers") && (has_workers request.command && is_none request.workers)

-- the file of this option is the word at this position
unfoldable pub with_file : List ℕ → ℕ → Request → Request
with_file name at request =
    if bytes_eq name (codes "--feeds")
    then record { command = request.command; feeds = Some at; journal = request.journal; workers = request.workers }
    else record { command = request.command; feeds = request.feeds; journal = Some at; workers = request.workers }

-- so many workers are asked for
abbrev pub with_workers : Request → Option ℕ → Option Request
with_workers request None = None
with_workers request (Some count) =
    Some (record { command = request.command; feeds = request.feeds; journal = request.journal; workers = Some count })

-- The option has this value, the word at this position: a number of workers, or a file, which is any word that is not empty.
unfoldable pub with_value : List ℕ → ℕ → List ℕ → Request → Option Request
with_value name at value request =
    if bytes_eq name (codes "--workers") then with_workers request (count_in most_workers value)
    else if nat_eq (length value) 0 then None
    else Some (with_file name at request)

-- what follows a value at this position, where it is one
abbrev pub followed_by : ℕ → (Request → Result Request ℕ) → Option Request → Result Request ℕ
followed_by at options None = Err at
followed_by at options (Some request) = options request

-- The options from position `at` on: each is a name and then its value.
abbrev pub options_in : ℕ → Request → List (List ℕ) → Result Request ℕ
options_in at request [] = Ok request
options_in at request (name ∷ []) = if takes request name then Err (at + 1) else Err at
options_in at request (name ∷ value ∷ rest) =
    if takes request name
    then followed_by (at + 1) (λ more. options_in (at + 2) more rest) (with_value name (at + 1) value request)
    else Err at

-- a command with no option
abbrev pub bare_request : Command → Request
bare_request command = record { command = command; feeds = None; journal = None; workers = None }

-- how many workers are asked for
abbrev pub worker_count : Request → ℕ
worker_count request = unwrap_or request.workers usual_workers

-- what follows the command: its options
abbrev pub asked_after : Option Command → List (List ℕ) → Result Request ℕ
asked_after None rest = Err 1
asked_after (Some command) rest = options_in 2 (bare_request command) rest

-- what follows `demo`: the number of stages, and then its options
abbrev pub demo_after : Option ℕ → List (List ℕ) → Result Request ℕ
demo_after None rest = Err 2
demo_after (Some stages) rest = options_in 3 (bare_request (Demo stages)) rest

abbrev pub demo_in : List (List ℕ) → Result Request ℕ
demo_in [] = Err 2
demo_in (word ∷ rest) = demo_after (count_in longest_train word) rest

-- What the words ask for; or the position of the first word that does not fit, counted from 1, or one past the last where a word is
-- missing.
unfoldable pub request_in : List (List ℕ) → Result Request ℕ
request_in [] = Err 1
request_in (word ∷ rest) =
    if bytes_eq word (codes "demo") then demo_in rest else asked_after (command_named word) rest

-- the positions of the words that name files
abbrev pub files_of : Result Request ℕ → Files
files_of (Ok request) = record { extra = request.feeds; trace = request.journal }
files_of (Err at) = record { extra = None; trace = None }

abbrev pub files_in : List (List ℕ) → Files
files_in words = files_of (request_in words)
