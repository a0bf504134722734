-- The eleven calls, with what the caller gives.
use Rattle.std.specs.Prelude.{ℕ, Bool, false, List, Some, None, Option}

pub data Call : Type 0 where
  begin_save : (party container : ℕ) (key value : List ℕ) → Call
  store : (party cloud : ℕ) (value : List ℕ) → Call
  commit : (party : ℕ) → Call
  delete : (party container : ℕ) (key : List ℕ) → Call
  begin_fetch : (party container : ℕ) (key : List ℕ) → Call
  try_cloud : (party cloud : ℕ) (buffer : List ℕ) → Call
  look_again : (party : ℕ) → Call
  begin_sweep : (party container : ℕ) (key : List ℕ) → Call
  sweep : (party cloud : ℕ) → Call
  leave : (party : ℕ) → Call
  list : (container : ℕ) (buffer : List ℕ) → Call

-- a test of what a call has; false where it has none
abbrev pub has : {X : Type 0} → Option X → (X → Bool) → Bool
has None t = false
has (Some x) t = t x

abbrev pub party_of : Call → Option ℕ
party_of (begin_save p c k v) = Some p
party_of (store p i v) = Some p
party_of (commit p) = Some p
party_of (delete p c k) = Some p
party_of (begin_fetch p c k) = Some p
party_of (try_cloud p i b) = Some p
party_of (look_again p) = Some p
party_of (begin_sweep p c k) = Some p
party_of (sweep p i) = Some p
party_of (leave p) = Some p
party_of (list c b) = None

abbrev pub key_of : Call → Option (List ℕ)
key_of (begin_save p c k v) = Some k
key_of (store p i v) = None
key_of (commit p) = None
key_of (delete p c k) = Some k
key_of (begin_fetch p c k) = Some k
key_of (try_cloud p i b) = None
key_of (look_again p) = None
key_of (begin_sweep p c k) = Some k
key_of (sweep p i) = None
key_of (leave p) = None
key_of (list c b) = None

abbrev pub value_of : Call → Option (List ℕ)
value_of (begin_save p c k v) = Some v
value_of (store p i v) = Some v
value_of (commit p) = None
value_of (delete p c k) = None
value_of (begin_fetch p c k) = None
value_of (try_cloud p i b) = None
value_of (look_again p) = None
value_of (begin_sweep p c k) = None
value_of (sweep p i) = None
value_of (leave p) = None
value_of (list c b) = None

abbrev pub cloud_of : Call → Option ℕ
cloud_of (begin_save p c k v) = None
cloud_of (store p i v) = Some i
cloud_of (commit p) = None
cloud_of (delete p c k) = None
cloud_of (begin_fetch p c k) = None
cloud_of (try_cloud p i b) = Some i
cloud_of (look_again p) = None
cloud_of (begin_sweep p c k) = None
cloud_of (sweep p i) = Some i
cloud_of (leave p) = None
cloud_of (list c b) = None
