-- Reading a record: from any bytes to the record at their front and what follows it, or nothing.
use Rattle.std.specs.Prelude.{ℕ, ◌+◌, ◌-◌, ◌*◌, ◌/◌, ◌%◌, ◌^◌, Bool, true, false, cond, not, ◌&&◌, List, [], ◌∷◌, length, take, drop, Some, None, Option, ◌==◌, nat_le}
use Rattle.std.specs.Borrow.{Bor}
use Rattle.std.specs.Option.{option_map}
use Rattle.naming.specs.Text.{valid_key}
use Rattle.naming.specs.Stamps.{StampValue, valid_writer}
use Rattle.entry.specs.Entries.{LiveValue, valid_live, stamp_taken}
use Rattle.journal_record.specs.declared.fields.Fields.{Fields}
use Rattle.journal_record.specs.declared.fields.LiveFields.{LiveFields}
use Rattle.journal_record.specs.declared.record.Record.{Record}
use Rattle.journal_record.specs.Records.{RecordValue, record_value}

-- What was read, and the bytes that follow.
abbrev pub Read : Type 0 → Type 0
Read A = Option (A × List ℕ)

-- go on with what was read
abbrev pub then : {A B : Type 0} → Read A → (A → List ℕ → Option B) → Option B
then None f = None
then (Some p) f = f p.0 p.1

-- go on where the test passes
abbrev pub guard : {A : Type 0} → Bool → Option A → Option A
guard b o = cond b o None

-- ---- bytes and numbers

abbrev pub take_byte : List ℕ → Read ℕ
take_byte [] = None
take_byte (x ∷ xs) = Some (x, xs)

abbrev pub take_two : List ℕ → Read ℕ
take_two [] = None
take_two (a ∷ []) = None
take_two (a ∷ b ∷ xs) = guard (nat_le a 255 && nat_le b 255) (Some (a * 256 + b, xs))

abbrev pub take_four : List ℕ → Read ℕ
take_four [] = None
take_four (a ∷ []) = None
take_four (a ∷ b ∷ []) = None
take_four (a ∷ b ∷ c ∷ []) = None
take_four (a ∷ b ∷ c ∷ d ∷ xs) =
    guard ((nat_le a 255 && nat_le b 255) && (nat_le c 255 && nat_le d 255)) (Some (a * 16777216 + b * 65536 + c * 256 + d, xs))

abbrev pub take_part : ℕ → List ℕ → Read (List ℕ)
take_part n xs = guard (nat_le n (length xs)) (Some (take n xs, drop n xs))

-- ---- the bit map

abbrev pub bit : ℕ → ℕ → Bool
bit k map = map / 2 ^ k % 2 == 1

-- bits 7, 6 and 5 are 1, 0 and 0
abbrev pub marked : ℕ → Bool
marked map = map / 2 ^ 5 == 4

-- bits 1 to 4 are clear
abbrev pub says_deleted : ℕ → Bool
says_deleted map = map / 2 ^ 1 % 16 == 0

abbrev pub same : Bool → Bool → Bool
same true b = b
same false b = not b

-- bit 1 stands, and one of bits 3 and 4
abbrev pub says_live : ℕ → Bool
says_live map = bit 1 map && not (same (bit 3 map) (bit 4 map))

-- ---- the fields

abbrev pub take_stamp : List ℕ → Read StampValue
take_stamp xs =
    then (take_four xs) (λ sequence ys.
    then (take_byte ys) (λ writer rest. Some (record { sequence = sequence; writer = writer }, rest)))

-- Without its bit the container is 0; with it 1 to 255.
abbrev pub take_container : Bool → List ℕ → Read ℕ
take_container false xs = Some (0, xs)
take_container true xs = then (take_byte xs) (λ x rest. guard (nat_le 1 x && nat_le x 255) (Some (x, rest)))

-- Without its bit the size is 0; with it, it is not.
abbrev pub take_size : Bool → List ℕ → Read ℕ
take_size false xs = Some (0, xs)
take_size true xs = then (take_two xs) (λ x rest. guard (nat_le 1 x) (Some (x, rest)))

-- 32 bytes where bit 4 stands, else 20
abbrev pub take_digest : Bool → List ℕ → Read (List ℕ)
take_digest long xs = take_part (cond long 32 20) xs

abbrev pub take_live : ℕ → List ℕ → Read LiveValue
take_live map xs =
    then (take_byte xs) (λ clouds ys.
    then (take_size (bit 2 map) ys) (λ size zs.
    then (take_digest (bit 4 map) zs) (λ digest rest. Some (record { clouds = clouds; size = size; digest = digest }, rest))))

-- the value, or none of a deleted entry
abbrev pub take_state : ℕ → List ℕ → Read (Option LiveValue)
take_state map xs =
    cond (says_deleted map) (Some (None, xs))
    (guard (says_live map) (then (take_live map xs) (λ live rest. Some (Some live, rest))))

-- all fields in their order
abbrev pub take_fields : ℕ → ℕ → List ℕ → Read RecordValue
take_fields map len xs =
    guard (marked map)
    (then (take_part len xs) (λ key ks.
    then (take_stamp ks) (λ stamp ss.
    then (take_container (bit 0 map) ss) (λ container cs.
    then (take_state map cs) (λ live rest.
    Some (record { container = container; key = key; entry = record { stamp = stamp; live = live } }, rest))))))

-- ---- the record

abbrev pub live_in_limits : Option LiveValue → Bool
live_in_limits None = true
live_in_limits (Some live) = valid_live live

-- the limits of keys and entries
abbrev pub in_limits : RecordValue → Bool
in_limits r =
    valid_key r.key
    && (valid_writer r.entry.stamp.writer && (live_in_limits r.entry.live && stamp_taken r.entry.stamp))

unfoldable pub parse : List ℕ → Read RecordValue
parse [] = None
parse (map ∷ []) = None
parse (map ∷ len ∷ fields) = then (take_fields map len fields) (λ r rest. guard (in_limits r) (Some (r, rest)))

-- the record, and how many bytes it takes up
abbrev pub first_record : List ℕ → Option (RecordValue × ℕ)
first_record xs = option_map (λ p. (p.0, length xs - length p.1)) (parse xs)

-- ---- what the functions that read answer

abbrev pub number_read : ℕ × Bor (List ℕ) → ℕ × List ℕ
number_read p = (p.0, p.1.now)

abbrev pub part_read : Bor (List ℕ) × Bor (List ℕ) → List ℕ × List ℕ
part_read p = (p.0.now, p.1.now)

abbrev pub stamp_read : (ℕ × ℕ) × Bor (List ℕ) → StampValue × List ℕ
stamp_read p = (record { sequence = p.0.0; writer = p.0.1 }, p.1.now)

abbrev pub live_of : LiveFields → LiveValue
live_of l = record { clouds = l.clouds; size = l.size; digest = l.digest.now }

abbrev pub live_read : LiveFields × Bor (List ℕ) → LiveValue × List ℕ
live_read p = (live_of p.0, p.1.now)

abbrev pub state_read : Option LiveFields × Bor (List ℕ) → Option LiveValue × List ℕ
state_read p = (option_map live_of p.0, p.1.now)

abbrev pub fields_of : Fields → RecordValue
fields_of f =
    record {
      container = f.container;
      key = f.key.now;
      entry = record { stamp = record { sequence = f.sequence; writer = f.writer }; live = option_map live_of f.live };
    }

abbrev pub fields_read : Fields × Bor (List ℕ) → RecordValue × List ℕ
fields_read p = (fields_of p.0, p.1.now)

abbrev pub record_read : Record × ℕ → RecordValue × ℕ
record_read p = (record_value p.0, p.1)
