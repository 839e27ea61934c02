-- Document 02, R-1: "KNXnet/IP TUNNELLING_REQUEST (0420h) and TUNNELLING_ACK (0421h)"; "After the KNXnet/IP header come 04h, channel,
-- counter, 00h (status in the acknowledgement)." In a request one cEMI message follows.
use Rattle.std.specs.Prelude.{ℕ, ◌+◌, List, [], ◌∷◌, ◌++◌, length}
use Rattle.cemi.specs.Layout.{plain}
use Rattle.cemi.specs.declared.Message.{Message}
use Rattle.knxnetip.specs.Header.{header_of}
use Rattle.tunnelling.specs.declared.Acknowledgement.{Acknowledgement}

abbrev pub request_service : ℕ
request_service = 0x0420

abbrev pub acknowledgement_service : ℕ
acknowledgement_service = 0x0421

-- the header and the connection header behind it
abbrev pub connected_head : ℕ → ℕ → ℕ → ℕ → ℕ → List ℕ
connected_head service total channel counter status = header_of service total ++ (0x04 ∷ channel ∷ counter ∷ status ∷ [])

-- both over octets that fill the datagram
unfoldable pub connected : ℕ → ℕ → ℕ → ℕ → List ℕ → List ℕ
connected service channel counter status o = connected_head service (10 + length o) channel counter status ++ o

-- a request in plain form: "The octet 00h isn't read", and is written as 00h
unfoldable pub request_octets : ℕ → ℕ → Message → List ℕ → List ℕ
request_octets channel counter x p = connected request_service channel counter 0x00 (plain x p)

unfoldable pub acknowledgement_octets : Acknowledgement → List ℕ
acknowledgement_octets a = connected acknowledgement_service a.channel a.counter a.status []
