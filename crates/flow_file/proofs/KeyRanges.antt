-- The ranges of what stands at keys that several tables have.
use Rattle.parts.specs.InRange.{AllMeet}
use Rattle.toml.specs.Data.{Data}
use Rattle.flow_file.specs.Read.{Reading}
use Rattle.flow_file.specs.Value.{Bytes, Section, no_others}
use Rattle.flow_file.specs.Value.{both_at, channels_of, quantities_of}
use Rattle.flow_file.proofs.Yields.{Yields, Reads, given, anything, after, required}

pub both : {A : Type 0} {P : A → Type 0} {read : Bytes → Data → Reading A} → Reads P read →
    (section : Section) (first second : Bytes) →
    Yields (λ both. P both.0 × P both.1) (both_at read section first second)
unfolding both_at
both each section first second =
    after (required each section first) (λ one one_is.
    after (required each section second) (λ other other_is.
    given (one_is, other_is)))

-- what is read at any key of a table meets P
abbrev pub ReadsKeys : {A : Type 0} → (A → Type 0) → (Section → Bytes → Reading A) → Type 0
ReadsKeys P at = (section : Section) (key : Bytes) → Yields P (at section key)

pub channels : {A : Type 0} {P : A → Type 0} {at : Section → Bytes → Reading A} → ReadsKeys P at →
    (section : Section) → Yields (λ found. P found.flow × P found.conc × P found.temp) (channels_of at section)
unfolding channels_of
channels each section =
    after (each section _) (λ flow flow_is.
    after (each section _) (λ conc conc_is.
    after (each section _) (λ temp temp_is.
    given (flow_is, conc_is, temp_is))))

pub quantities : {A : Type 0} {P : A → Type 0} {at : Section → Bytes → Reading A} → ReadsKeys P at →
    (section : Section) → Yields (AllMeet P) (quantities_of at section)
unfolding quantities_of
quantities each section =
    after (channels each section) (λ stream are.
    after (each section _) (λ volume volume_is.
    after (each section _) (λ signal signal_is.
    after (anything (no_others _ section)) (λ _ _.
    given (record { flow = are.0; conc = are.1; temp = are.2; volume = volume_is; signal = signal_is })))))
