-- The options of a command.
use Rattle.std.proofs.Common.{◌≡◌, ◌∙◌, ℕ, ℤ, pos, negsuc, nat_le, IfSome, ◌+◌, ◌&&◌, ◌==◌, Bool, true, false, List, [], ◌∷◌, Option, Some, None, is_none, Result, Ok, Err, length, slice_index_or, take, drop, ◌-◌, ◌<◌, ◌≤◌, codes, bytes_eq, if◌then◌else◌, refl, sym, ap, subst, arith}
use Rattle.std.proofs.lemmas.List.{take_all, length-drop}
use Rattle.std.proofs.lemmas.Bool.Decides.{nat_tests}
use Rattle.std.proofs.lemmas.Slice.Eq.{bytes_eq-Decides}
use Rattle.flow_top.specs.declared.words.Command.{Command}
use Rattle.flow_top.specs.declared.words.Command.TheVariants.{Run, Direct, Check, Demo}
use Rattle.flow_top.specs.declared.words.Request.{Request}
use Rattle.lines.specs.Numbers.{number_in}
use Rattle.plant_gen.specs.Generated.{longest_train}
use Rattle.flow_top.specs.Words.{command_named, reads_records, writes_trace, has_workers, takes, with_file, with_workers, with_value, followed_by, options_in, bare_request, most_workers, asked_after, zero_digit, up_to, count_in, demo_after, demo_in, request_in}
use Rattle.flow_top.specs.Steps.{given, place_after, AreStages, AreWorkers, IsAsked}

-- the number that a word writes
abbrev IsCount : ℕ → ℕ → Type 0
IsCount most n = (1 ≤ n) × (n ≤ most)

within : (m n : ℕ) → nat_le m n ≡ true → m ≤ n
within m n passed = grind (arith, nat_tests)

count-if : (most n : ℕ) (some few : Bool) → nat_le 1 n ≡ some → nat_le n most ≡ few →
    IfSome (if some && few then Some n else None) (IsCount most)
count-if most n true true s f = (within 1 n s, within n most f)
count-if most n true false s f = tt
count-if most n false few s f = tt

count-up : (most : ℕ) (number : Option ℤ) → IfSome (up_to most number) (IsCount most)
count-up most None = tt
count-up most (Some (pos n)) = count-if most n (nat_le 1 n) (nat_le n most) refl refl
count-up most (Some (negsuc n)) = tt

unless-zero : (zero : Bool) (most : ℕ) (number : Option ℤ) → IfSome (if zero then None else up_to most number) (IsCount most)
unless-zero true most number = tt
unless-zero false most number = count-up most number

counted : (most : ℕ) (word : List ℕ) → IfSome (count_in most word) (IsCount most)
counted most [] = tt
counted most (digit ∷ rest) = unless-zero (digit == zero_digit) most (number_in 6 false (digit ∷ rest))

-- a request, and the same with one more option
data IsMore (request more : Request) : Type 0 where
  by_feeds : (at : ℕ) → reads_records request.command ≡ true → given request.feeds ≡ 0 →
      record { command = request.command; feeds = Some at; journal = request.journal; workers = request.workers } ≡ more →
      IsMore request more
  by_journal : (at : ℕ) → given request.journal ≡ 0 →
      record { command = request.command; feeds = request.feeds; journal = Some at; workers = request.workers } ≡ more →
      IsMore request more
  by_workers : (count : ℕ) → AreWorkers count → given request.workers ≡ 0 →
      record { command = request.command; feeds = request.feeds; journal = request.journal; workers = Some count } ≡ more →
      IsMore request more

-- an option that is taken is one that the command has, and was not given
and-left : (a b : Bool) → (a && b) ≡ true → a ≡ true
and-left true b e = refl
and-left false b e = absurd (cc e)

not-given : (has : Bool) (value : Option ℕ) → (has && is_none value) ≡ true → given value ≡ 0
not-given has None e = refl
not-given true (Some at) e = absurd (cc e)
not-given false (Some at) e = absurd (cc e)

-- whether an option is taken, and the request with its value, by which option it is
abbrev taken_as : Bool → Bool → Bool → Request → Bool
taken_as feeds journal workers request =
    if feeds then reads_records request.command && is_none request.feeds
    else if journal then writes_trace request.command && is_none request.journal
    else workers && (has_workers request.command && is_none request.workers)

abbrev file_as : Bool → ℕ → Request → Request
file_as feeds at request =
    if feeds then record { command = request.command; feeds = Some at; journal = request.journal; workers = request.workers }
    else record { command = request.command; feeds = request.feeds; journal = Some at; workers = request.workers }

abbrev value_as : Bool → Bool → Bool → Option ℕ → ℕ → Request → Option Request
value_as feeds workers empty number at request =
    if workers then with_workers request number else if empty then None else Some (file_as feeds at request)

more-workers : (request more : Request) (number : Option ℕ) → IfSome number AreWorkers → given request.workers ≡ 0 →
    with_workers request number ≡ Some more → IsMore request more
more-workers request more None few none e = absurd (cc e)
more-workers request more (Some count) few none e = by_workers count few none (cc e)

more-as : (f j w empty : Bool) (number : Option ℕ) (at : ℕ) (request more : Request) → (f ≡ true → w ≡ false) → (j ≡ true → w ≡ false) →
    IfSome number AreWorkers → taken_as f j w request ≡ true → value_as f w empty number at request ≡ Some more → IsMore request more
more-as true j true empty number at request more other also few taken e = absurd (cc (other refl))
more-as true j false true number at request more other also few taken e = absurd (cc e)
more-as true j false false number at request more other also few taken e =
    by_feeds at (and-left (reads_records request.command) (is_none request.feeds) taken)
    (not-given (reads_records request.command) request.feeds taken) (cc e)
more-as false true true empty number at request more other also few taken e = absurd (cc (also refl))
more-as false true false true number at request more other also few taken e = absurd (cc e)
more-as false true false false number at request more other also few taken e =
    by_journal at (not-given (writes_trace request.command) request.journal taken) (cc e)
more-as false false true empty number at request more other also few taken e =
    more-workers request more number few (not-given (has_workers request.command) request.workers taken) e
more-as false false false empty number at request more other also few taken e = absurd (cc taken)

-- the option of a file is not that of the workers
feeds-apart : (name : List ℕ) → bytes_eq name (codes "--feeds") ≡ true → bytes_eq name (codes "--workers") ≡ false
feeds-apart name e =
    let same : name ≡ codes "--feeds" = (bytes_eq-Decides name (codes "--feeds")).0 e in
    subst (λ (word : List ℕ). bytes_eq word (codes "--workers") ≡ false) (sym same) refl

journal-apart : (name : List ℕ) → bytes_eq name (codes "--journal") ≡ true → bytes_eq name (codes "--workers") ≡ false
journal-apart name e =
    let same : name ≡ codes "--journal" = (bytes_eq-Decides name (codes "--journal")).0 e in
    subst (λ (word : List ℕ). bytes_eq word (codes "--workers") ≡ false) (sym same) refl

more-of : (request more : Request) (name value : List ℕ) (at : ℕ) → takes request name ≡ true →
    with_value name at value request ≡ Some more → IsMore request more
unfolding takes with_file with_value
more-of request more name value at taken e =
    more-as (bytes_eq name (codes "--feeds")) (bytes_eq name (codes "--journal")) (bytes_eq name (codes "--workers"))
    (length value == 0) (count_in most_workers value) at request more (feeds-apart name) (journal-apart name)
    (counted most_workers value) taken e

-- behind an option that is taken the next one begins
more-place : (request more : Request) (at : ℕ) → IsMore request more → at ≡ place_after request → at + 2 ≡ place_after more
more-place request more at (by_feeds file reads none e) here =
    let on : at + 2 ≡
    place_after (record { command = request.command; feeds = Some file; journal = request.journal; workers = request.workers }) =
    omega (arith, here, none) in on ∙ ap place_after e
more-place request more at (by_journal file none e) here =
    let on : at + 2 ≡
    place_after (record { command = request.command; feeds = request.feeds; journal = Some file; workers = request.workers }) =
    omega (arith, here, none) in on ∙ ap place_after e
more-place request more at (by_workers count few none e) here =
    let on : at + 2 ≡
    place_after (record { command = request.command; feeds = request.feeds; journal = request.journal; workers = Some count }) =
    omega (arith, here, none) in on ∙ ap place_after e

-- it changes the file of records only where the command reads them
more-asked : (request more : Request) → IsMore request more → IsAsked request → IsAsked more
more-asked request more (by_feeds file reads none e) asked =
    subst IsAsked e (record { stages = asked.stages; unread = λ no. absurd (cc (reads, no)); workers = asked.workers })
more-asked request more (by_journal file none e) asked =
    subst IsAsked e (record { stages = asked.stages; unread = asked.unread; workers = asked.workers })
more-asked request more (by_workers count few none e) asked =
    subst IsAsked e (record { stages = asked.stages; unread = asked.unread; workers = few })

-- so a request asks for no records where its command reads none, and for a summary of stages that can be generated
abbrev AsksWell : Result Request ℕ → Type 0
AsksWell answer = (request : Request) → answer ≡ Ok request → IsAsked request

refuses : (at : ℕ) → AsksWell (Err at)
refuses at request e = absurd (cc e)

asks : (one : Request) → IsAsked one → AsksWell (Ok one)
asks one h request e = let same : one ≡ request = cc e in subst IsAsked same h

either : (b : Bool) (x y : Result Request ℕ) → (b ≡ true → AsksWell x) → AsksWell y → AsksWell (if b then x else y)
either true x y h l = h refl
either false x y h l = l

followed-asked : (at : ℕ) (options : Request → Result Request ℕ) (more : Option Request) →
    ((one : Request) → more ≡ Some one → AsksWell (options one)) → AsksWell (followed_by at options more)
followed-asked at options None asked = refuses at
followed-asked at options (Some more) asked = asked more refl

options-asked : (options : List (List ℕ)) (at : ℕ) (request : Request) → IsAsked request → AsksWell (options_in at request options)
options-asked [] at request h = asks request h
options-asked (name ∷ []) at request h =
    either (takes request name) (Err (at + 1)) (Err at) (λ _. refuses (at + 1)) (refuses at)
options-asked (name ∷ value ∷ rest) at request h =
    either (takes request name) _ (Err at)
    (λ taken. followed-asked (at + 1) (λ more. options_in (at + 2) more rest) (with_value name (at + 1) value request)
    (λ more e. options-asked rest (at + 2) more (more-asked request more (more-of request more name value (at + 1) taken e) h)))
    (refuses at)

bare-asked : (command : Command) → AreStages command → IsAsked (bare_request command)
bare-asked command stages = record { stages = stages; unread = λ _. refl; workers = tt }

-- a command of one word
abbrev HasStages : Option Command → Type 0
HasStages command = IfSome command AreStages

one-named : (is : Bool) (command : Command) (other : Option Command) → AreStages command → HasStages other →
    HasStages (if is then Some command else other)
one-named true command other stages rest = stages
one-named false command other stages rest = rest

named-stages : (word : List ℕ) → HasStages (command_named word)
named-stages word =
    one-named (bytes_eq word (codes "run")) Run _ tt
    (one-named (bytes_eq word (codes "direct")) Direct _ tt (one-named (bytes_eq word (codes "check")) Check None tt tt))

after-asked : (command : Option Command) (rest : List (List ℕ)) → HasStages command → AsksWell (asked_after command rest)
after-asked None rest stages = refuses 1
after-asked (Some command) rest stages = options-asked rest 2 (bare_request command) (bare-asked command stages)

stages-asked : (stages : Option ℕ) (rest : List (List ℕ)) → IfSome stages (IsCount longest_train) → AsksWell (demo_after stages rest)
stages-asked None rest few = refuses 2
stages-asked (Some n) rest few = options-asked rest 3 (bare_request (Demo n)) (bare-asked (Demo n) few)

demo-asked : (words : List (List ℕ)) → AsksWell (demo_in words)
demo-asked [] = refuses 2
demo-asked (word ∷ rest) = stages-asked (count_in longest_train word) rest (counted longest_train word)

pub request-asked : (words : List (List ℕ)) → AsksWell (request_in words)
unfolding request_in
request-asked [] = refuses 1
request-asked (word ∷ rest) =
    either (bytes_eq word (codes "demo")) (demo_in rest) _ (λ _. demo-asked rest)
    (after-asked (command_named word) rest (named-stages word))

-- the options behind one that is taken
one-first : (options : List (List ℕ)) (a b : List ℕ) → 2 ≤ length options → a ≡ slice_index_or options 0 a →
    b ≡ slice_index_or options 0 b → a ≡ b
one-first [] a b few x y = absurd (omega arith)
one-first (word ∷ rest) a b few x y = x ∙ sym y

rest-whole : (options : List (List ℕ)) → take (length options - 2) (drop 2 options) ≡ drop 2 options
rest-whole options = take_all (length options - 2) (drop 2 options) (subst (λ n. n ≤ length options - 2) (sym (length-drop 2 options)) (omega arith))

pub rest-shorter : (options : List (List ℕ)) → 2 ≤ length options → length (take (length options - 2) (drop 2 options)) < length options
rest-shorter options some =
    subst (λ n. n < length options) (sym (ap (λ (l : List (List ℕ)). length l) (rest-whole options) ∙ length-drop 2 options)) (omega arith)

options-on : (options : List (List ℕ)) (name value : List ℕ) (at : ℕ) (request : Request) → takes request name ≡ true →
    2 ≤ length options → name ≡ slice_index_or options 0 name → value ≡ slice_index_or options 1 value →
    followed_by (at + 1) (λ more. options_in (at + 2) more (drop 2 options)) (with_value name (at + 1) value request)
    ≡ options_in at request options
options-on [] name value at request taken few n v = absurd (omega arith)
options-on (word ∷ []) name value at request taken few n v = absurd (omega arith)
options-on (word ∷ next ∷ rest) name value at request taken few n v =
    let here : takes request word ≡ true = ap (takes request) (sym n) ∙ taken in
    ap (λ w. followed_by (at + 1) (λ more. options_in (at + 2) more rest) (with_value w (at + 1) value request)) n
    ∙ ap (λ w. followed_by (at + 1) (λ more. options_in (at + 2) more rest) (with_value word (at + 1) w request)) v
    ∙ sym (rw here refl)

-- what is answered for an option's value
pub value-so : (again name bytes value : List ℕ) (at : ℕ) (request : Request) (result answer : Option Request) → result ≡ answer →
    result ≡ with_value again at bytes request → again ≡ name → bytes ≡ value → answer ≡ with_value name at value request
value-so again name bytes value at request result answer is e n v =
    sym is ∙ e ∙ ap (λ w. with_value w at bytes request) n ∙ ap (λ w. with_value name at w request) v

-- `answer` is the request with the option's value; what is answered for all options is then what follows it
pub options-so : (options : List (List ℕ)) (name again value : List ℕ) (at : ℕ) (request : Request) (answer : Option Request) →
    takes request name ≡ true → 2 ≤ length options → name ≡ slice_index_or options 0 name →
    again ≡ slice_index_or options 0 again → value ≡ slice_index_or options 1 value → answer ≡ with_value again (at + 1) value request →
    followed_by (at + 1) (λ more. options_in (at + 2) more (take (length options - 2) (drop 2 options))) answer
    ≡ options_in at request options
options-so options name again value at request answer taken few n a v e =
    ap (λ (rest : List (List ℕ)). followed_by (at + 1) (λ more. options_in (at + 2) more rest) answer) (rest-whole options)
    ∙ ap (λ (one : Option Request). followed_by (at + 1) (λ more. options_in (at + 2) more (drop 2 options)) one)
    (e ∙ ap (λ w. with_value w (at + 1) value request) (one-first options again name few a n))
    ∙ options-on options name value at request taken few n v

pub next-so : (options : List (List ℕ)) (name again value : List ℕ) (at : ℕ) (request more : Request) →
    takes request name ≡ true → 2 ≤ length options → name ≡ slice_index_or options 0 name → again ≡ slice_index_or options 0 again →
    Some more ≡ with_value again (at + 1) value request → at ≡ place_after request → at + 2 ≡ place_after more
next-so options name again value at request more taken few n a e here =
    let taken_again : takes request again ≡ true = ap (takes request) (one-first options again name few a n) ∙ taken in
    more-place request more at (more-of request more again value (at + 1) taken_again (sym e)) here
