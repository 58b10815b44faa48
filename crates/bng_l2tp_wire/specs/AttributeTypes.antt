-- Attribute Types of AVPs whose Vendor ID is 0.
use Rattle.std.specs.Prelude.{ℕ}

-- RFC 2661 section 4.4.1
abbrev pub message_type : ℕ
message_type = 0

abbrev pub random_vector : ℕ
random_vector = 36

-- RFC 2661 section 4.4.2
abbrev pub result_code : ℕ
result_code = 1

-- RFC 2661 section 4.4.3
abbrev pub protocol_version : ℕ
protocol_version = 2

abbrev pub framing_capabilities : ℕ
framing_capabilities = 3

abbrev pub bearer_capabilities : ℕ
bearer_capabilities = 4

abbrev pub tie_breaker : ℕ
tie_breaker = 5

abbrev pub firmware_revision : ℕ
firmware_revision = 6

abbrev pub host_name : ℕ
host_name = 7

abbrev pub vendor_name : ℕ
vendor_name = 8

abbrev pub assigned_tunnel_id : ℕ
assigned_tunnel_id = 9

abbrev pub receive_window_size : ℕ
receive_window_size = 10

abbrev pub challenge : ℕ
challenge = 11

abbrev pub challenge_response : ℕ
challenge_response = 13

-- RFC 2661 section 4.4.4
abbrev pub q931_cause_code : ℕ
q931_cause_code = 12

abbrev pub assigned_session_id : ℕ
assigned_session_id = 14

abbrev pub call_serial_number : ℕ
call_serial_number = 15

abbrev pub minimum_bps : ℕ
minimum_bps = 16

abbrev pub maximum_bps : ℕ
maximum_bps = 17

abbrev pub bearer_type : ℕ
bearer_type = 18

abbrev pub framing_type : ℕ
framing_type = 19

abbrev pub called_number : ℕ
called_number = 21

abbrev pub calling_number : ℕ
calling_number = 22

abbrev pub sub_address : ℕ
sub_address = 23

abbrev pub tx_connect_speed : ℕ
tx_connect_speed = 24

abbrev pub rx_connect_speed : ℕ
rx_connect_speed = 38

abbrev pub physical_channel_id : ℕ
physical_channel_id = 25

abbrev pub private_group_id : ℕ
private_group_id = 37

abbrev pub sequencing_required : ℕ
sequencing_required = 39

-- RFC 2661 section 4.4.5
abbrev pub initial_received_lcp_confreq : ℕ
initial_received_lcp_confreq = 26

abbrev pub last_sent_lcp_confreq : ℕ
last_sent_lcp_confreq = 27

abbrev pub last_received_lcp_confreq : ℕ
last_received_lcp_confreq = 28

abbrev pub proxy_authen_type : ℕ
proxy_authen_type = 29

abbrev pub proxy_authen_name : ℕ
proxy_authen_name = 30

abbrev pub proxy_authen_challenge : ℕ
proxy_authen_challenge = 31

abbrev pub proxy_authen_id : ℕ
proxy_authen_id = 32

abbrev pub proxy_authen_response : ℕ
proxy_authen_response = 33

-- RFC 2661 section 4.4.6
abbrev pub call_errors : ℕ
call_errors = 34

abbrev pub accm : ℕ
accm = 35
