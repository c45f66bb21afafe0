-- The functions that do more than take places and give a result, by the names of the JNI specification. Assumes nothing.
use Rattle.std.specs.Prelude.{ℕ}

abbrev pub PushLocalFrame : ℕ
PushLocalFrame = 19

abbrev pub PopLocalFrame : ℕ
PopLocalFrame = 20

abbrev pub DeleteGlobalRef : ℕ
DeleteGlobalRef = 22

abbrev pub DeleteLocalRef : ℕ
DeleteLocalRef = 23

abbrev pub EnsureLocalCapacity : ℕ
EnsureLocalCapacity = 26

abbrev pub GetObjectClass : ℕ
GetObjectClass = 31

abbrev pub MonitorEnter : ℕ
MonitorEnter = 217

abbrev pub MonitorExit : ℕ
MonitorExit = 218

abbrev pub DeleteWeakGlobalRef : ℕ
DeleteWeakGlobalRef = 227
