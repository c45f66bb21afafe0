-- What a result or a place is of: a local, any handle, a buffer. Assumes nothing.
use Rattle.std.specs.Prelude.{Bool, true, false}
use Rattle.facts.specs.declared.Place.{Place}
use Rattle.facts.specs.declared.Result.{Result}

-- L
abbrev pub is_local_result : Result → Bool
is_local_result Result.Local = true
is_local_result Result.Global = false
is_local_result Result.Weak = false
is_local_result Result.Identity = false
is_local_result Result.Buffer = false
is_local_result Result.Status = false
is_local_result Result.Nothing = false

-- L, G or W
abbrev pub is_handle_result : Result → Bool
is_handle_result Result.Local = true
is_handle_result Result.Global = true
is_handle_result Result.Weak = true
is_handle_result Result.Identity = false
is_handle_result Result.Buffer = false
is_handle_result Result.Status = false
is_handle_result Result.Nothing = false

-- B
abbrev pub is_buffer_result : Result → Bool
is_buffer_result Result.Local = false
is_buffer_result Result.Global = false
is_buffer_result Result.Weak = false
is_buffer_result Result.Identity = false
is_buffer_result Result.Buffer = true
is_buffer_result Result.Status = false
is_buffer_result Result.Nothing = false

-- r o l g w
abbrev pub is_handle_place : Place → Bool
is_handle_place Place.Handle = true
is_handle_place Place.HandleOrNull = true
is_handle_place Place.LocalOrNull = true
is_handle_place Place.GlobalOrNull = true
is_handle_place Place.WeakOrNull = true
is_handle_place Place.Identity = false
is_handle_place Place.Buffer = false
is_handle_place Place.Unused = false

-- b
abbrev pub is_buffer_place : Place → Bool
is_buffer_place Place.Handle = false
is_buffer_place Place.HandleOrNull = false
is_buffer_place Place.LocalOrNull = false
is_buffer_place Place.GlobalOrNull = false
is_buffer_place Place.WeakOrNull = false
is_buffer_place Place.Identity = false
is_buffer_place Place.Buffer = true
is_buffer_place Place.Unused = false

-- i
abbrev pub is_identity_place : Place → Bool
is_identity_place Place.Handle = false
is_identity_place Place.HandleOrNull = false
is_identity_place Place.LocalOrNull = false
is_identity_place Place.GlobalOrNull = false
is_identity_place Place.WeakOrNull = false
is_identity_place Place.Identity = true
is_identity_place Place.Buffer = false
is_identity_place Place.Unused = false
